-- How a table is loaded, step by step.
use Rattle.std.specs.Prelude.{◌≡◌, ◌≢◌, ℕ, ℤ, ◌+◌, ◌*◌, ◌<◌, ◌≤◌, Bool, true, not, List, [], ◌∷◌, ◌++◌, length, take, drop, get_or, map, Some, None, Ok, Err}
use Rattle.std.specs.List.{All, list_any, position_or_len}
use Rattle.std.specs.Str.{bytes_eq}
use Rattle.vocabulary.specs.declared.ids.ColId.{ColId}
use Rattle.source_tables.specs.declared.decl.ColumnDecl.{ColumnDecl}
use Rattle.source_tables.specs.declared.decl.TableDecl.{TableDecl}
use Rattle.source_tables.specs.declared.fault.TableFault.{TableFault}
use Rattle.source_tables.specs.declared.fault.TableFault.TheVariants.{NoMemory}
use Rattle.cell_store.specs.Grid.{Grid}
use Rattle.source_tables.specs.Cells.{Cell, Row, HasText, is_null}
use Rattle.source_tables.specs.Tables.{Loaded, OrFault, TellsApart, ◌>>=◌, check_keys, checked_cell, checked_cells, checked_header, checked_rows, cut_rows, key_cells, rows_limit}

-- a fault is the one that is due, unless memory ran out
abbrev pub Fails : {A : Type 0} → TableFault → OrFault A → Type 0
Fails e due = e ≢ NoMemory → due ≡ Err e

-- where the header has a column
abbrev pub place_in : List (List ℕ) → ColumnDecl → ℕ
place_in header column = position_or_len (bytes_eq column.header) header

-- cells that a row puts behind those that are there
pub record Puts (old new : Grid) (cells : Row) : Type 0 where
  pub cols : new.cols ≡ old.cols
  pub behind : new.cells ≡ old.cells ++ cells
  pub texts : All HasText cells

-- what was read was put there
abbrev pub PutsCell : OrFault Cell → Grid → Grid → Type 0
PutsCell (Ok cell) old new = Puts old new (cell ∷ [])
PutsCell (Err e) old new = ⊥

abbrev pub PutsRow : OrFault Row → Grid → Grid → Type 0
PutsRow (Ok row) old new = Puts old new row
PutsRow (Err e) old new = ⊥

-- the cells of row n in the columns from c on, which stand in these places
abbrev pub placed_cells : ℤ → ℕ → List (List ℕ) → ℕ → List ℕ → List ColumnDecl → OrFault Row
placed_cells offset n fields c [] columns = Ok []
placed_cells offset n fields c (place ∷ places) [] = Ok []
placed_cells offset n fields c (place ∷ places) (column ∷ columns) =
    checked_cell offset column.kind n c (get_or fields place []) >>= (λ cell.
    placed_cells offset n fields (c + 1) places columns >>= (λ cells. Ok (cell ∷ cells)))

-- row `row`, counted from 0, of cells that fill rows of one width
abbrev pub row_at : ℕ → ℕ → List Cell → Row
row_at width row cells = take width (drop (row * width) cells)

-- the text of a key's cells, each with a byte behind it that no cell has
abbrev pub key_text : List Cell → List ℕ
key_text [] = []
key_text (None ∷ cells) = 0 ∷ key_text cells
key_text (Some text ∷ cells) = text ++ (0 ∷ key_text cells)

-- the key texts of rows
abbrev pub key_texts : List ColId → List Row → List (List ℕ)
key_texts key rows = map (λ row. key_text (key_cells key row)) rows

-- the cells of a key are no nulls, and then this is their text
abbrev pub IsKeyText : Bool → List Cell → List ℕ → Type 0
IsKeyText whole cells text = (list_any is_null cells ≡ not whole) × (whole ≡ true → text ≡ key_text cells)

-- `row` full rows and one more
abbrev pub HasRow : ℕ → ℕ → Grid → Type 0
HasRow width row cells = (length cells.cells ≡ row * width + width) × (width ≢ 0 → cells.cols ≡ width) × (row < 1_000_000)

-- so many rows were read: their cells, told apart by each key, and for each key the texts of its cells
pub record AreRead (decl : TableDecl) (count : ℕ) (cells : Grid) (indexes : List (List (List ℕ))) : Type 0 where
  pub most : count ≤ rows_limit
  pub long : length cells.cells ≡ count * length decl.columns
  pub cols : length decl.columns ≢ 0 → cells.cols ≡ length decl.columns
  pub texts : All HasText cells.cells
  pub keys : All (TellsApart (cut_rows count (length decl.columns) cells.cells)) decl.keys
  pub numbered : indexes ≡ map (λ key. key_texts key (cut_rows count (length decl.columns) cells.cells)) decl.keys

abbrev pub rows_in : TableDecl → ℕ → Grid → List Row
rows_in decl count cells = cut_rows count (length decl.columns) cells.cells

-- the cells of row n, with keys that these rows have not
abbrev pub keyed_row : TableDecl → List (List ℕ) → List Row → ℕ → List (List ℕ) → OrFault Row
keyed_row decl header before n fields = checked_cells decl.offset header n fields 0 decl.columns >>= (λ row. check_keys before n row decl.keys)

-- a row that is read as its definition says goes behind the others
abbrev pub AddsRow : OrFault Row → List Row → List Row → Type 0
AddsRow (Ok row) before after = after ≡ before ++ (row ∷ [])
AddsRow (Err e) before after = ⊥

-- the table of a header and the records below it
abbrev pub table_below : TableDecl → List (List ℕ) → List (List (List ℕ)) → OrFault Loaded
table_below decl header body =
    checked_header decl header >>= (λ first. checked_rows decl first [] body >>= (λ rows. Ok (record { decl = decl; rows = rows })))
