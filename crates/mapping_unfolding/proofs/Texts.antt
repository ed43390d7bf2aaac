-- The cells of tuples over tables whose cells are texts.
use Rattle.std.proofs.Common.{ℕ, zero, suc, ◌≡◌, refl, List, [], ◌∷◌, get_or, Option, Some, None, All}
use Rattle.std.specs.List.{slice_get}
use Rattle.std.proofs.lemmas.List.Elements.{All-nil, All-cons, All-head, All-tail}
use Rattle.vocabulary.specs.declared.ids.TableId.{TableId}
use Rattle.source_tables.specs.Cells.{Row}
use Rattle.source_tables.specs.Tables.{Loaded}
use Rattle.mapping_facts.specs.Fits.{HaveTexts, IsTextCell}
use Rattle.mapping_facts.specs.Tuples.{rows_in, table_rows, tuple_rows}
use Rattle.mapping_facts.proofs.Members.{All-In, In-slice_get}
use Rattle.mapping_unfolding.proofs.Beside.{AreTables}

or_default : {X : Type 0} (P : X → Type 0) (xs : List X) (k : ℕ) (d : X) → P d → All P xs → P (get_or xs k d)
or_default P [] k d p h = p
or_default P (x ∷ xs) zero d p h = All-head P x xs h
or_default P (x ∷ xs) (suc k) d p h = or_default P xs k d p (All-tail P x xs h)

abbrev TextRow : Row → Type 0
TextRow row = All IsTextCell row

table_texts : (tables : List Loaded) → HaveTexts tables → (t : TableId) (o : Option Loaded) → slice_get tables t.0 ≡ o → All TextRow (rows_in o)
table_texts tables texts t None e = All-nil TextRow
table_texts tables texts t (Some table) e = All-In (λ l. All TextRow l.rows) tables texts (In-slice_get tables t.0 table e)

tuple_texts : (tables : List Loaded) → HaveTexts tables → (ts : List TableId) (rows : List ℕ) → All TextRow (tuple_rows tables ts rows)
tuple_texts tables texts [] rows = All-nil TextRow
tuple_texts tables texts (t ∷ ts) [] = All-nil TextRow
tuple_texts tables texts (t ∷ ts) (r ∷ rows) =
    All-cons TextRow (get_or (table_rows tables t) r []) (tuple_rows tables ts rows)
    (or_default TextRow (table_rows tables t) r [] (All-nil IsTextCell) (table_texts tables texts t (slice_get tables t.0) refl))
    (tuple_texts tables texts ts rows)

pub are_tables : (tables : List Loaded) → HaveTexts tables → AreTables tables
are_tables tables texts ts rows p =
    or_default IsTextCell (get_or (tuple_rows tables ts rows) p.table []) p.col.0 None tt
    (or_default TextRow (tuple_rows tables ts rows) p.table [] (All-nil IsTextCell) (tuple_texts tables texts ts rows))
