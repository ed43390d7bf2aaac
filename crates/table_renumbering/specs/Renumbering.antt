-- A row query whose tables stand at other places.
use Rattle.std.specs.Prelude.{ℕ, ◌≡◌, ◌<◌, List, length, map, get_or}
use Rattle.vocabulary.specs.declared.ids.TableId.{TableId}
use Rattle.mapping_facts.specs.declared.query.Place.{Place}
use Rattle.mapping_facts.specs.declared.query.Condition.{Condition}
use Rattle.mapping_facts.specs.declared.query.Condition.TheVariants.{Equal, EqualText, Differ, DifferText, IsNull, NotNull}
use Rattle.mapping_facts.specs.declared.query.RowQuery.{RowQuery}
use Rattle.mapping_facts.specs.declared.term.RowTerm.{RowTerm}
use Rattle.mapping_facts.specs.declared.term.RowTerm.TheVariants.{Iri, Cell, Fixed}

-- the table at a place, by default the first
abbrev pub table_in : List TableId → ℕ → TableId
table_in ts k = get_or ts k (record { 0 = 0 })

-- the tables that stand at these places
abbrev pub picked_tables : List ℕ → List TableId → List TableId
picked_tables order ts = map (table_in ts) order

-- the numbers that stand at these places
abbrev pub picked : List ℕ → List ℕ → List ℕ
picked order tuple = map (λ k. get_or tuple k 0) order

-- the same column of the table at the place where it stands then
abbrev pub moved_place : List ℕ → Place → Place
moved_place places p = record { table = get_or places p.table 0; col = p.col }

abbrev pub moved_condition : List ℕ → Condition → Condition
moved_condition places (Equal p q) = Equal (moved_place places p) (moved_place places q)
moved_condition places (EqualText p text) = EqualText (moved_place places p) text
moved_condition places (Differ p q) = Differ (moved_place places p) (moved_place places q)
moved_condition places (DifferText p text) = DifferText (moved_place places p) text
moved_condition places (IsNull p) = IsNull (moved_place places p)
moved_condition places (NotNull p) = NotNull (moved_place places p)

abbrev pub moved_term : List ℕ → RowTerm → RowTerm
moved_term places (Iri template list) = Iri template (map (moved_place places) list)
moved_term places (Cell kind p) = Cell kind (moved_place places p)
moved_term places (Fixed term) = Fixed term

abbrev pub moved_pair : List ℕ → RowTerm × RowTerm → RowTerm × RowTerm
moved_pair places pair = (moved_term places pair.0, moved_term places pair.1)

-- the tables of an order, and all else at the places where they stand then
abbrev pub moved_query : List ℕ → List ℕ → RowQuery → RowQuery
moved_query order places q = record {
  query = record { tables = picked_tables order q.query.tables; conditions = map (moved_condition places) q.query.conditions };
  apart = map (moved_pair places) q.apart;
  head = map (moved_term places) q.head;
}

-- `order` names a table for each new place, and `places` for each table a new place at which that table stands
pub record IsRenumbering (ts : List TableId) (order places : List ℕ) : Type 0 where
  pub whole : length places ≡ length ts
  pub among : (m : ℕ) → m < length order → get_or order m 0 < length ts
  pub placed : (k : ℕ) → k < length ts → get_or places k 0 < length order
  pub same : (k : ℕ) → k < length ts → table_in ts (get_or order (get_or places k 0) 0) ≡ table_in ts k
