-- The cells of a row, one after the other.
use Rattle.std.proofs.Common.{◌≡◌, ◌∙◌, sym, refl, ap, subst, ℕ, ℤ, ◌+◌, ◌*◌, ◌/◌, ◌<◌, ◌≤◌, List, [], ◌∷◌, ◌++◌, length, drop, get_or, Ok, Err, arith, map, append_assoc, length-append, mul-le-mul_right}
use Rattle.std.proofs.lemmas.List.{append-nil, drop_more, drop_all}
use Rattle.std.proofs.lemmas.List.Elements.{All-nil, All-append}
use Rattle.std.proofs.Math.Nat.{div-lt_iff_lt-mul}
use Rattle.cell_store.specs.Grid.{Grid, full_rows}
use Rattle.source_tables.specs.declared.decl.ColumnDecl.{ColumnDecl}
use Rattle.source_tables.specs.declared.fault.TableFault.{TableFault}
use Rattle.source_tables.specs.Cells.{Cell, Row, HasText}
use Rattle.source_tables.specs.Tables.{OrFault, ◌>>=◌, checked_cell, checked_cells}
use Rattle.source_tables.specs.Loading.{Puts, PutsCell, PutsRow, Fails, place_in, placed_cells}

-- the cells that are put already, and those to come
abbrev pub with_front : Row → OrFault Row → OrFault Row
with_front front read = read >>= (λ more. Ok (front ++ more))

pub no_front : (read : OrFault Row) → with_front [] read ≡ read
no_front (Ok row) = refl
no_front (Err e) = refl

fronts : (front : Row) (cell : Cell) (read : OrFault Row) → with_front (front ++ (cell ∷ [])) read ≡ with_front front (read >>= (λ cells. Ok (cell ∷ cells)))
fronts front cell (Ok more) = ap (λ (r : Row). Ok r) (append_assoc front (cell ∷ []) more)
fronts front cell (Err e) = refl

-- the cells of the columns from i on
abbrev pub from_place : ℤ → ℕ → List (List ℕ) → List ℕ → List ColumnDecl → ℕ → OrFault Row
from_place offset n fields places columns i = placed_cells offset n fields i (drop i places) (drop i columns)

front_from : (front : Row) (offset : ℤ) (n : ℕ) (fields : List (List ℕ)) (i place : ℕ) (column : ColumnDecl) (places : List ℕ) (columns : List ColumnDecl) (cell : Cell)
    → checked_cell offset column.kind n i (get_or fields place []) ≡ Ok cell
    → with_front front (placed_cells offset n fields i (place ∷ places) (column ∷ columns)) ≡ with_front (front ++ (cell ∷ [])) (placed_cells offset n fields (i + 1) places columns)
front_from front offset n fields i place column places columns cell is =
    ap (λ (r : OrFault Cell). with_front front (r >>= (λ c. placed_cells offset n fields (i + 1) places columns >>= (λ cells. Ok (c ∷ cells))))) is
    ∙ sym (fronts front cell (placed_cells offset n fields (i + 1) places columns))

pub one_more : (front : Row) (offset : ℤ) (n : ℕ) (fields : List (List ℕ)) (places : List ℕ) (columns : List ColumnDecl) (i : ℕ) (column : ColumnDecl) (cell : Cell)
    → i < length places → i < length columns → column ≡ get_or columns i column
    → checked_cell offset column.kind n i (get_or fields (get_or places i 0) []) ≡ Ok cell
    → with_front front (from_place offset n fields places columns i) ≡ with_front (front ++ (cell ∷ [])) (from_place offset n fields places columns (i + 1))
one_more front offset n fields places columns i column cell place_there column_there is ok =
    ap (λ (ps : List ℕ). with_front front (placed_cells offset n fields i ps (drop i columns))) (drop_more places i 0 place_there)
    ∙ ap (λ (cs : List ColumnDecl). with_front front (placed_cells offset n fields i (get_or places i 0 ∷ drop (i + 1) places) cs)) (drop_more columns i column column_there ∙ ap (λ (k : ColumnDecl). k ∷ drop (i + 1) columns) (sym is))
    ∙ front_from front offset n fields i (get_or places i 0) column (drop (i + 1) places) (drop (i + 1) columns) cell ok

front_fails : (front : Row) (offset : ℤ) (n : ℕ) (fields : List (List ℕ)) (i place : ℕ) (column : ColumnDecl) (places : List ℕ) (columns : List ColumnDecl) (e : TableFault)
    → checked_cell offset column.kind n i (get_or fields place []) ≡ Err e
    → with_front front (placed_cells offset n fields i (place ∷ places) (column ∷ columns)) ≡ Err e
front_fails front offset n fields i place column places columns e is =
    ap (λ (r : OrFault Cell). with_front front (r >>= (λ c. placed_cells offset n fields (i + 1) places columns >>= (λ cells. Ok (c ∷ cells))))) is

pub one_fails : (front : Row) (offset : ℤ) (n : ℕ) (fields : List (List ℕ)) (places : List ℕ) (columns : List ColumnDecl) (i : ℕ) (column : ColumnDecl) (e : TableFault)
    → i < length places → i < length columns → column ≡ get_or columns i column
    → checked_cell offset column.kind n i (get_or fields (get_or places i 0) []) ≡ Err e
    → with_front front (from_place offset n fields places columns i) ≡ Err e
one_fails front offset n fields places columns i column e place_there column_there is fails =
    ap (λ (ps : List ℕ). with_front front (placed_cells offset n fields i ps (drop i columns))) (drop_more places i 0 place_there)
    ∙ ap (λ (cs : List ColumnDecl). with_front front (placed_cells offset n fields i (get_or places i 0 ∷ drop (i + 1) places) cs)) (drop_more columns i column column_there ∙ ap (λ (k : ColumnDecl). k ∷ drop (i + 1) columns) (sym is))
    ∙ front_fails front offset n fields i (get_or places i 0) column (drop (i + 1) places) (drop (i + 1) columns) e fails

pub none_left : (front : Row) (offset : ℤ) (n : ℕ) (fields : List (List ℕ)) (places : List ℕ) (columns : List ColumnDecl) (i : ℕ) → length places ≤ i
    → with_front front (from_place offset n fields places columns i) ≡ Ok front
none_left front offset n fields places columns i past =
    ap (λ (ps : List ℕ). with_front front (placed_cells offset n fields i ps (drop i columns))) (drop_all i places past)
    ∙ ap (λ (r : Row). Ok r) (append-nil front)

-- what was put so far, and what is still to come
pub record SoFar (offset : ℤ) (n : ℕ) (fields : List (List ℕ)) (places : List ℕ) (columns : List ColumnDecl) (old new : Grid) (i : ℕ) : Type 0 where
  pub front : Row
  pub long : length front ≡ i
  pub puts : Puts old new front
  pub rest : with_front front (from_place offset n fields places columns i) ≡ placed_cells offset n fields 0 places columns

pub at_start : (offset : ℤ) (n : ℕ) (fields : List (List ℕ)) (places : List ℕ) (columns : List ColumnDecl) (old : Grid) → SoFar offset n fields places columns old old 0
at_start offset n fields places columns old = record {
  front = [];
  long = refl;
  puts = record { cols = refl; behind = sym (append-nil old.cells); texts = All-nil HasText };
  rest = no_front _;
}

cell_put : (read : OrFault Cell) (old new : Grid) → PutsCell read old new → (cell : Cell) × (read ≡ Ok cell) × Puts old new (cell ∷ [])
cell_put (Ok cell) old new puts = (cell, refl, puts)
cell_put (Err e) old new puts = absurd puts

both_put : (a b c : Grid) (xs ys : Row) → Puts a b xs → Puts b c ys → Puts a c (xs ++ ys)
both_put a b c xs ys first second = record {
  cols = second.cols ∙ first.cols;
  behind = second.behind ∙ ap (λ (cells : Row). cells ++ ys) first.behind ∙ append_assoc a.cells xs ys;
  texts = All-append HasText xs ys first.texts second.texts;
}

pub goes_on : (offset : ℤ) (n : ℕ) (fields : List (List ℕ)) (places : List ℕ) (columns : List ColumnDecl) (old mid new : Grid) (i : ℕ) (column : ColumnDecl)
    → SoFar offset n fields places columns old mid i
    → i < length places → i < length columns → column ≡ get_or columns i column
    → PutsCell (checked_cell offset column.kind n i (get_or fields (get_or places i 0) [])) mid new
    → SoFar offset n fields places columns old new (i + 1)
goes_on offset n fields places columns old mid new i column so_far place_there column_there is puts =
    let cell = cell_put (checked_cell offset column.kind n i (get_or fields (get_or places i 0) [])) mid new puts in
    record {
      front = so_far.front ++ (cell.0 ∷ []);
      long = omega (arith, length-append so_far.front (cell.0 ∷ []), so_far.long);
      puts = both_put old mid new so_far.front (cell.0 ∷ []) so_far.puts cell.2;
      rest = sym (one_more so_far.front offset n fields places columns i column cell.0 place_there column_there is cell.1) ∙ so_far.rest;
    }

pub stops : (offset : ℤ) (n : ℕ) (fields : List (List ℕ)) (places : List ℕ) (columns : List ColumnDecl) (old mid : Grid) (i : ℕ) (column : ColumnDecl) (e : TableFault)
    → SoFar offset n fields places columns old mid i
    → i < length places → i < length columns → column ≡ get_or columns i column
    → Fails e (checked_cell offset column.kind n i (get_or fields (get_or places i 0) []))
    → Fails e (placed_cells offset n fields 0 places columns)
stops offset n fields places columns old mid i column e so_far place_there column_there is fails = λ other.
    sym so_far.rest ∙ one_fails so_far.front offset n fields places columns i column e place_there column_there is (fails other)

row_put : (read : OrFault Row) (old new : Grid) (row : Row) → read ≡ Ok row → Puts old new row → PutsRow read old new
row_put read old new row is puts = rw is puts

pub all_put : (offset : ℤ) (n : ℕ) (fields : List (List ℕ)) (places : List ℕ) (columns : List ColumnDecl) (old new : Grid) (i : ℕ)
    → SoFar offset n fields places columns old new i → length places ≤ i → PutsRow (placed_cells offset n fields 0 places columns) old new
all_put offset n fields places columns old new i so_far past =
    row_put (placed_cells offset n fields 0 places columns) old new so_far.front (sym so_far.rest ∙ none_left so_far.front offset n fields places columns i past) so_far.puts

-- a row that is not full leaves room
pub room_left : (old new : Grid) (front : Row) (width row i : ℕ) → Puts old new front → length front ≡ i → i < width → old.cols ≡ width → length old.cells + width ≡ row * width → row ≤ 1_000_000
    → full_rows new < 1_000_000
room_left old new front width row i puts long less cols before most =
    let cells : length new.cells ≡ length old.cells + i = omega (arith, ap length puts.behind, length-append old.cells front, long) in
    let all : length new.cells < 1_000_000 * width = omega (arith, cells, before, mul-le-mul_right width most) in
    let rows : length new.cells / width < 1_000_000 = (div-lt_iff_lt-mul (omega arith)).1 all in
    subst (λ (w : ℕ). length new.cells / w < 1_000_000) (sym (puts.cols ∙ cols)) rows

-- the places of the columns give the cells of the columns
pub by_places : (offset : ℤ) (n : ℕ) (header fields : List (List ℕ)) (c : ℕ) (columns : List ColumnDecl)
    → placed_cells offset n fields c (map (place_in header) columns) columns ≡ checked_cells offset header n fields c columns
by_places offset n header fields c [] = refl
by_places offset n header fields c (column ∷ columns) =
    ap (λ (r : OrFault Row). checked_cell offset column.kind n c (get_or fields (place_in header column) []) >>= (λ cell. r >>= (λ cells. Ok (cell ∷ cells)))) (by_places offset n header fields (c + 1) columns)
