-- One tuple for each choice of rows of the first tables, and tables that nothing joins to those before them.
use Rattle.std.specs.Prelude.{◌≡◌, ◌<◌, ◌≤◌, ◌⊎◌, ◌+◌, ◌&&◌, ◌||◌, ℕ, Bool, true, false, not, nat_lt, List, [], ◌++◌, length, take, drop, Option, Some, None}
use Rattle.std.specs.List.{list_all}
use Rattle.vocabulary.specs.declared.term.Term.{Term}
use Rattle.vocabulary.specs.Lists.{In}
use Rattle.source_tables.specs.Tables.{Loaded}
use Rattle.mapping_facts.specs.declared.query.Condition.{Condition}
use Rattle.mapping_facts.specs.declared.query.Place.{Place}
use Rattle.mapping_facts.specs.declared.query.RowQuery.{RowQuery}
use Rattle.mapping_facts.specs.declared.query.SourceQuery.{SourceQuery}
use Rattle.mapping_facts.specs.declared.term.RowTerm.{RowTerm}
use Rattle.mapping_facts.specs.RowQueries.{row_tuples}
use Rattle.mapping_facts.specs.Tuples.{cell_of, condition_holds, product}
use Rattle.table_renumbering.specs.Places.{condition_places, term_places}
use Rattle.table_renumbering.specs.Tuples.{GivesTerms}
use Rattle.join_engine.specs.Fronts.{asked_behind, reach}

-- of these tuples there is one for each choice of their first `end` numbers; what was there before stays
pub record GainsHeads (end : ℕ) (tuples old new : List (List ℕ)) : Type 0 where
  pub kept : (t : List ℕ) → In t old → In t new
  pub only : (t : List ℕ) → In t new → In t old ⊎ In t tuples
  pub all : (t : List ℕ) → In t tuples → (u : List ℕ) × In u new × (take end u ≡ take end t)

-- rows of the first tables over which every condition holds that speaks of no others
pub record Stands (tables : List Loaded) (q : SourceQuery) (n : ℕ) (front : List ℕ) : Type 0 where
  pub rows : In front (product tables (take (length front) q.tables))
  pub hold : (c : Condition) → In c q.conditions → reach c < n → condition_holds (cell_of tables q.tables front) c ≡ true

-- rows of the first `end` tables stand in place of these, over which each of the conditions holds where it does over these; or no tuple begins with these
abbrev pub IsFrontBehind : List Loaded → RowQuery → ℕ → List ℕ → List ℕ → Bool → Type 0
IsFrontBehind tables q end front after true = (length after ≡ end) × (Stands tables q.query (length front) front → Stands tables q.query (end + 1) after)
IsFrontBehind tables q end front after false = (after ≡ front) × (asked_behind tables q front ≡ [])

-- no place is of a table before this one
abbrev pub are_behind : ℕ → List Place → Bool
are_behind b ps = list_all (λ p. not (nat_lt p.table b)) ps

abbrev pub is_term_behind : ℕ → RowTerm → Bool
is_term_behind b r = are_behind b (term_places r)

abbrev pub is_pair_behind : ℕ → RowTerm × RowTerm → Bool
is_pair_behind b pair = is_term_behind b pair.0 && is_term_behind b pair.1

-- a condition is on the first b tables or on those behind them
abbrev pub is_on_one_side : ℕ → Condition → Bool
is_on_one_side b c = nat_lt (reach c) (b + 1) || are_behind b (condition_places c)

-- nothing joins the first b tables to those behind them, and head and pairs are over the latter
abbrev pub is_part : ℕ → RowQuery → Bool
is_part b q = list_all (is_on_one_side b) q.query.conditions && list_all (is_term_behind b) q.head && list_all (is_pair_behind b) q.apart

-- with these rows of the first tables, in place of its own, every tuple is one
pub record IsFree (tables : List Loaded) (q : RowQuery) (front : List ℕ) : Type 0 where
  pub within : length front ≤ length q.query.tables
  pub stands : Stands tables q.query (length front + 1) front
  pub tuples : (t : List ℕ) → In t (row_tuples tables q) → In (front ++ drop (length front) t) (row_tuples tables q)
  pub head : list_all (is_term_behind (length front)) q.head ≡ true

-- these rows, of no more than `end` tables, are free, or no tuple is asked for
abbrev pub IsSettled : List Loaded → RowQuery → ℕ → List ℕ → Bool → Type 0
IsSettled tables q end front true = IsFree tables q front × (length front ≤ end)
IsSettled tables q end front false = row_tuples tables q ≡ []

abbrev pub are_within : ℕ → List Place → Bool
are_within end ps = list_all (λ p. nat_lt p.table end) ps

abbrev pub is_term_within : ℕ → RowTerm → Bool
is_term_within end r = are_within end (term_places r)

-- the terms of the head are over the first `end` tables
abbrev pub IsHeadWithin : ℕ → RowQuery → Type 0
IsHeadWithin end q = (r : RowTerm) → In r q.head → (p : Place) → In p (term_places r) → p.table < end

-- tuples that a row query asks for, with all the terms that its tuples give
pub record AreHeads (tables : List Loaded) (q : RowQuery) (found : List (List ℕ)) : Type 0 where
  pub asked : (tuple : List ℕ) → In tuple found → In tuple (row_tuples tables q)
  pub all : (ts : List Term) → GivesTerms tables q (row_tuples tables q) ts → GivesTerms tables q found ts

-- one of the tuples that a row query asks for, none where there is none
abbrev pub IsSome : List Loaded → RowQuery → Option (List ℕ) → Type 0
IsSome tables q None = row_tuples tables q ≡ []
IsSome tables q (Some tuple) = In tuple (row_tuples tables q)
