-- Row queries that no rows satisfy, told by their conditions and by keys.
use Rattle.std.specs.Prelude.{ℕ, ◌==◌, Bool, true, false, not, ◌&&◌, ◌||◌, if◌then◌else◌, List, [], ◌∷◌, slice_get, Option, Some, None}
use Rattle.std.specs.List.{list_all, list_any}
use Rattle.std.specs.Str.{bytes_eq}
use Rattle.vocabulary.specs.declared.ids.ColId.{ColId}
use Rattle.vocabulary.specs.declared.ids.TableId.{TableId}
use Rattle.source_tables.specs.Tables.{Loaded}
use Rattle.mapping_facts.specs.declared.query.Place.{Place}
use Rattle.mapping_facts.specs.declared.query.Condition.{Condition}
use Rattle.mapping_facts.specs.declared.query.Condition.TheVariants.{Equal, EqualText, Differ, DifferText, IsNull, NotNull}
use Rattle.mapping_facts.specs.declared.query.SourceQuery.{SourceQuery}
use Rattle.mapping_facts.specs.declared.mapping.Mapping.{Mapping}
use Rattle.mapping_unfolding.specs.declared.draft.Origin.{Origin}
use Rattle.fact_derivation.specs.Finding.{table_count}
use Rattle.negative_closure.specs.declared.source.Source.{Source}
use Rattle.negative_closure.specs.declared.source.Source.TheVariants.{One, Two, TwoFillers, TwoLinks}

abbrev pub place_same : Place → Place → Bool
place_same p q = (p.table == q.table) && (p.col.0 == q.col.0)

-- the condition sets the cells of two places equal
abbrev pub equates : Place → Place → Condition → Bool
equates p q (Equal r s) = (place_same p r && place_same q s) || (place_same p s && place_same q r)
equates p q (EqualText r text) = false
equates p q (Differ r s) = false
equates p q (DifferText r text) = false
equates p q (IsNull r) = false
equates p q (NotNull r) = false

abbrev pub at : ℕ → ColId → Place
at n c = record { table = n; col = c }

-- the conditions set all columns of a key equal between two of the tables
abbrev pub is_key_equated : List Condition → ℕ → ℕ → List ColId → Bool
is_key_equated conditions m n key = list_all (λ c. list_any (equates (at m c) (at n c)) conditions) key

-- the table at two places, where it is one
abbrev pub shared_table : List Loaded → Option TableId → Option TableId → Option Loaded
shared_table tables None t = None
shared_table tables (Some s) None = None
shared_table tables (Some s) (Some t) = if s.0 == t.0 then slice_get tables s.0 else None

abbrev pub has_key_equated : List Condition → ℕ → ℕ → Option Loaded → Bool
has_key_equated conditions m n None = false
has_key_equated conditions m n (Some table) = list_any (is_key_equated conditions m n) table.decl.keys

-- two of the tables are one, and the conditions set a key of it equal
abbrev pub are_one_row : List Loaded → SourceQuery → ℕ → ℕ → Bool
are_one_row tables q m n = has_key_equated q.conditions m n (shared_table tables (slice_get q.tables m) (slice_get q.tables n))

-- the cells at two places are one, by a key
abbrev pub are_one_cell : List Loaded → SourceQuery → Place → Place → Bool
are_one_cell tables q p r = (p.col.0 == r.col.0) && ((p.table == r.table) || are_one_row tables q p.table r.table)

-- two conditions that do not both hold where they speak of one cell
abbrev pub excludes : Condition → Condition → Bool
excludes (EqualText p s) (EqualText q t) = not (bytes_eq s t)
excludes (EqualText p s) (DifferText q t) = bytes_eq s t
excludes (IsNull p) (EqualText q t) = true
excludes (IsNull p) (DifferText q t) = true
excludes (IsNull p) (NotNull q) = true
excludes _ _ = false

abbrev pub first_place : Condition → Place
first_place (Equal p q) = p
first_place (EqualText p text) = p
first_place (Differ p q) = p
first_place (DifferText p text) = p
first_place (IsNull p) = p
first_place (NotNull p) = p

abbrev pub contradicts : List Loaded → SourceQuery → Condition → Condition → Bool
contradicts tables q c d = excludes c d && are_one_cell tables q (first_place c) (first_place d)

-- some two of the conditions do not both hold
abbrev pub is_unsatisfiable : List Loaded → SourceQuery → Bool
is_unsatisfiable tables q = list_any (λ c. list_any (contradicts tables q c) q.conditions) q.conditions

-- one target of one mapping of one table gives both facts, at one row, so that they are no two different fillers
abbrev pub are_one_fact : List Mapping → List Loaded → SourceQuery → List Origin → Bool
are_one_fact mappings tables q [] = false
are_one_fact mappings tables q (o ∷ []) = false
are_one_fact mappings tables q (o ∷ p ∷ []) =
    (o.mapping == p.mapping) && (o.target == p.target) && (table_count (slice_get mappings o.mapping) == 1) && are_one_row tables q o.first p.first
are_one_fact mappings tables q (o ∷ p ∷ r ∷ rest) = false

abbrev pub asks_two_fillers : Source → Bool
asks_two_fillers (One x) = false
asks_two_fillers (Two x y) = false
asks_two_fillers (TwoFillers p d) = true
asks_two_fillers (TwoLinks q d p) = false
