-- The tuples of row queries whose tables stand at other places, and the terms that they give.
use Rattle.std.specs.Prelude.{ℕ, ◌≡◌, ◌<◌, List, length, get_or, Some}
use Rattle.vocabulary.specs.declared.term.Term.{Term}
use Rattle.vocabulary.specs.Lists.{In}
use Rattle.source_tables.specs.Tables.{Loaded}
use Rattle.mapping_facts.specs.declared.query.RowQuery.{RowQuery}
use Rattle.mapping_facts.specs.RowQueries.{row_tuples, terms_at}
use Rattle.mapping_facts.specs.Tuples.{cell_of}
use Rattle.table_renumbering.specs.Renumbering.{picked}

-- the terms of a row query's head at one of these tuples
abbrev pub GivesTerms : List Loaded → RowQuery → List (List ℕ) → List Term → Type 0
GivesTerms tables q tuples ts = (tuple : List ℕ) × In tuple tuples × (terms_at (cell_of tables q.query.tables tuple) q.head ≡ Some ts)

-- the heads of two row queries have the same terms at these tuples
abbrev pub SameTerms : List Loaded → RowQuery → List ℕ → RowQuery → List ℕ → Type 0
SameTerms tables q tuple r other = terms_at (cell_of tables q.query.tables tuple) q.head ≡ terms_at (cell_of tables r.query.tables other) r.head

-- a tuple has the same row at each table's place and at the place that the order names for it
abbrev pub IsSameAt : List ℕ → List ℕ → List ℕ → Type 0
IsSameAt order places tuple = (k : ℕ) → k < length places → get_or tuple (get_or order (get_or places k 0) 0) 0 ≡ get_or tuple k 0

-- a tuple of the second row query, read at the new place of each table, is one of the first
abbrev pub LeadsBack : List ℕ → RowQuery → RowQuery → Type 0
LeadsBack places q r = (tables : List Loaded) (tuple : List ℕ) → In tuple (row_tuples tables r) →
    In (picked places tuple) (row_tuples tables q) × SameTerms tables q (picked places tuple) r tuple

-- and a tuple of the first, in the order, is one of the second
abbrev pub LeadsForth : List ℕ → List ℕ → RowQuery → RowQuery → Type 0
LeadsForth order places q r = (tables : List Loaded) (tuple : List ℕ) → In tuple (row_tuples tables q) → IsSameAt order places tuple →
    In (picked order tuple) (row_tuples tables r) × SameTerms tables q tuple r (picked order tuple)
