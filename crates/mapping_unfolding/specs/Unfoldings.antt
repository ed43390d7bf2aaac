-- What the unfolding of a query says.
use Rattle.std.specs.Prelude.{ℕ, ◌≡◌, List, length, take, drop, slice_get, Some, ◌↔◌}
use Rattle.vocabulary.specs.declared.ids.TableId.{TableId}
use Rattle.vocabulary.specs.declared.term.Term.{Term}
use Rattle.vocabulary.specs.declared.term.Fact.{Fact}
use Rattle.vocabulary.specs.Lists.{In, Pairwise}
use Rattle.source_tables.specs.Tables.{Loaded}
use Rattle.queries.specs.declared.query.Atom.{Atom}
use Rattle.queries.specs.declared.query.Query.{Query}
use Rattle.queries.specs.Matches.{AtomIs, HeadIs, IsMatch, Terms}
use Rattle.mapping_facts.specs.declared.mapping.Target.{Target}
use Rattle.mapping_facts.specs.declared.mapping.Mapping.{Mapping}
use Rattle.mapping_facts.specs.Facts.{mapped_facts, mapping_fact}
use Rattle.mapping_facts.specs.Fits.{HaveTexts}
use Rattle.mapping_facts.specs.RowQueries.{row_tuples, terms_at}
use Rattle.mapping_facts.specs.Tuples.{cell_of, tuples}
use Rattle.mapping_unfolding.specs.declared.draft.Origin.{Origin}
use Rattle.mapping_unfolding.specs.declared.unfolded.Unfolded.{Unfolded}

-- the terms of a row query's head at a tuple
abbrev pub HeadAre : List Loaded → Unfolded → List ℕ → List Term → Type 0
HeadAre tables u tuple ts = terms_at (cell_of tables u.rows.query.tables tuple) u.rows.head ≡ Some ts

-- a row query of the list gives these terms at one of its tuples
abbrev pub GivesHead : List Loaded → List Unfolded → List Term → Type 0
GivesHead tables list ts = (u : Unfolded) × In u list × (tuple : List ℕ) × In tuple (row_tuples tables u.rows) × HeadAre tables u tuple ts

-- over any tables whose cells are texts, the row queries give exactly the head images of the query's matches in the mapped facts
abbrev pub AreUnfoldings : List Mapping → Query → List Unfolded → Type 0
AreUnfoldings mappings q list = (tables : List Loaded) → HaveTexts tables → (ts : List Term) → ((σ : Terms) × IsMatch (mapped_facts mappings tables) q ts σ) ↔ GivesHead tables list ts

-- n items from a place on
abbrev pub items_from : {X : Type 0} → ℕ → ℕ → List X → List X
items_from first n xs = take n (drop first xs)

-- the mapping and the target that an origin names
abbrev pub Names : List Mapping → Origin → Mapping → Target → Type 0
Names mappings o m g = (slice_get mappings o.mapping ≡ Some m) × (slice_get m.targets o.target ≡ Some g)

-- an origin names a mapping, whose tables stand from the origin's place on, and a target of it
abbrev pub OriginStands : List Mapping → List TableId → Atom → Origin → Type 0
OriginStands mappings ts a o = (m : Mapping) × (g : Target) × Names mappings o m g × (items_from o.first (length m.query.tables) ts ≡ m.query.tables)

-- one origin for each atom, in order
abbrev pub OriginsStand : List Mapping → Query → Unfolded → Type 0
OriginsStand mappings q u = Pairwise (OriginStands mappings u.rows.query.tables) q.atoms u.origins

-- at the rows of a tuple that are its own, an origin's target gives a fact, for which the atom stands
pub record OriginGives (mappings : List Mapping) (tables : List Loaded) (tuple : List ℕ) (σ : Terms) (a : Atom) (o : Origin) : Type 0 where
  pub mapping : Mapping
  pub target : Target
  pub fact : Fact
  pub names : Names mappings o mapping target
  pub rows : In (items_from o.first (length mapping.query.tables) tuple) (tuples tables mapping.query)
  pub gives : mapping_fact tables mapping (items_from o.first (length mapping.query.tables) tuple) target ≡ Some fact
  pub atom : AtomIs σ a fact

-- one replacement takes each atom to its origin's fact, and the query's head to the row query's
pub record OriginsGive (mappings : List Mapping) (q : Query) (u : Unfolded) (tables : List Loaded) (tuple : List ℕ) : Type 0 where
  pub terms : Terms
  pub facts : Pairwise (OriginGives mappings tables tuple terms) q.atoms u.origins
  pub head : (ts : List Term) → HeadAre tables u tuple ts ↔ HeadIs terms q.head ts

-- over any tables whose cells are texts, at each tuple
abbrev pub HasOrigins : List Mapping → Query → Unfolded → Type 0
HasOrigins mappings q u = (tables : List Loaded) → HaveTexts tables → (tuple : List ℕ) → In tuple (row_tuples tables u.rows) → OriginsGive mappings q u tables tuple
