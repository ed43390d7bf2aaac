-- The images of a query over tables.
use Rattle.std.specs.Prelude.{ℕ, ◌≤◌, List, length}
use Rattle.std.specs.Option.{option_to_list}
use Rattle.vocabulary.specs.declared.term.Term.{Term}
use Rattle.vocabulary.specs.declared.term.Fact.{Fact}
use Rattle.vocabulary.specs.Lists.{In}
use Rattle.source_tables.specs.Tables.{Loaded}
use Rattle.queries.specs.declared.query.Query.{Query}
use Rattle.queries.specs.Matches.{IsMatch, Terms}
use Rattle.queries.specs.Occurrences.{HeadStands}
use Rattle.mapping_facts.specs.declared.query.RowQuery.{RowQuery}
use Rattle.mapping_facts.specs.RowQueries.{terms_at}
use Rattle.mapping_facts.specs.Tuples.{cell_of}

-- the tuple is the image of the head under a match of the query in the facts
unfoldable pub IsImage : List Fact → Query → List Term → Type 0
IsImage facts q ts = (σ : Terms) × IsMatch facts q ts σ

-- the tuple is an image of one of the queries (a union of conjunctive queries)
abbrev pub IsImageOfOne : List Fact → List Query → List Term → Type 0
IsImageOfOne facts queries ts = (q : Query) × In q queries × IsImage facts q ts

-- a query that can be unfolded
pub record CanUnfold (q : Query) : Type 0 where
  pub stands : HeadStands q
  pub few : length q.atoms ≤ 16

-- the terms of a row query's head at a tuple of row numbers, none where one is not defined
abbrev pub head_at : List Loaded → RowQuery → List ℕ → List (List Term)
head_at tables q tuple = option_to_list (terms_at (cell_of tables q.query.tables tuple) q.head)
