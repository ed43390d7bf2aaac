-- The rows and the cells of tuples, by place.
use Rattle.std.proofs.Common.{ℕ, zero, suc, ◌≡◌, refl, sym, ◌∙◌, ap, ◌<◌, List, [], ◌∷◌, length, get_or, arith, Some, None}
use Rattle.vocabulary.specs.declared.ids.TableId.{TableId}
use Rattle.source_tables.specs.Tables.{Loaded}
use Rattle.mapping_facts.specs.declared.query.Place.{Place}
use Rattle.mapping_facts.specs.Tuples.{cell_of, table_rows, tuple_rows}
use Rattle.mapping_facts.proofs.Tuples.{AreRows}
use Rattle.table_renumbering.specs.Renumbering.{table_in}

pub rows_count : (tables : List Loaded) (ts : List TableId) (tuple : List ℕ) → AreRows tables ts tuple → length tuple ≡ length ts
rows_count tables [] [] h = refl
rows_count tables [] (r ∷ rs) h = absurd h
rows_count tables (t ∷ ts) [] h = absurd h
rows_count tables (t ∷ ts) (r ∷ rs) h = let k = rows_count tables ts rs h.1 in grind arith

pub rows_each : (tables : List Loaded) (ts : List TableId) (tuple : List ℕ) → AreRows tables ts tuple → (k : ℕ) → k < length ts → get_or tuple k 0 < length (table_rows tables (table_in ts k))
rows_each tables [] tuple h k l = absurd (omega (arith, l))
rows_each tables (t ∷ ts) [] h k l = absurd h
rows_each tables (t ∷ ts) (r ∷ rs) h zero l = h.0
rows_each tables (t ∷ ts) (r ∷ rs) h (suc k) l = rows_each tables ts rs h.1 k (omega (arith, l))

pub to_rows : (tables : List Loaded) (ts : List TableId) (tuple : List ℕ) → length tuple ≡ length ts → ((k : ℕ) → k < length ts → get_or tuple k 0 < length (table_rows tables (table_in ts k))) → AreRows tables ts tuple
to_rows tables [] [] e h = tt
to_rows tables [] (r ∷ rs) e h = absurd (omega (arith, e))
to_rows tables (t ∷ ts) [] e h = absurd (omega (arith, e))
to_rows tables (t ∷ ts) (r ∷ rs) e h = (h zero (omega arith), to_rows tables ts rs (omega (arith, e)) (λ k l. h (suc k) (omega (arith, l))))

pub row_at : (tables : List Loaded) (ts : List TableId) (tuple : List ℕ) (k : ℕ) → length tuple ≡ length ts → k < length ts → get_or (tuple_rows tables ts tuple) k [] ≡ get_or (table_rows tables (table_in ts k)) (get_or tuple k 0) []
row_at tables [] tuple k e h = absurd (omega (arith, h))
row_at tables (t ∷ ts) [] k e h = absurd (omega (arith, e))
row_at tables (t ∷ ts) (r ∷ rs) zero e h = refl
row_at tables (t ∷ ts) (r ∷ rs) (suc k) e h = row_at tables ts rs k (omega (arith, e)) (omega (arith, h))

-- two places of one column with the same table and the same row of it have the same cell
pub cell_same : (tables : List Loaded) (ts us : List TableId) (tuple other : List ℕ) (p r : Place) → length tuple ≡ length ts → length other ≡ length us → p.table < length ts → r.table < length us →
    table_in ts p.table ≡ table_in us r.table → get_or tuple p.table 0 ≡ get_or other r.table 0 → p.col ≡ r.col → cell_of tables ts tuple p ≡ cell_of tables us other r
cell_same tables ts us tuple other p r e f h k table row col =
    (λ i. get_or (get_or (tuple_rows tables ts tuple) p.table []) (col i).0 None)
    ∙ ap (λ cells. get_or cells r.col.0 None) (row_at tables ts tuple p.table e h ∙ (λ i. get_or (table_rows tables (table i)) (row i) []) ∙ sym (row_at tables us other r.table f k))
