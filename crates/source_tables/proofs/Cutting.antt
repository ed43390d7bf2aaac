-- Rows that are cut from cells which follow one another.
use Rattle.std.proofs.Common.{◌≡◌, ◌∙◌, refl, ap, ℕ, zero, suc, ◌+◌, ◌*◌, ◌<◌, ◌≤◌, List, [], ◌∷◌, length, take, drop, get_or, None, arith}
use Rattle.std.specs.List.{All}
use Rattle.std.proofs.lemmas.List.{get_or-take, get_or-drop, get_or_past}
use Rattle.std.proofs.lemmas.List.Elements.{All-nil, All-cons, All-take, All-drop}
use Rattle.source_tables.specs.Cells.{Cell, HasText}
use Rattle.source_tables.specs.Tables.{cut_rows}

pub length-cut_rows : (n width : ℕ) (cells : List Cell) → length (cut_rows n width cells) ≡ n
length-cut_rows zero width cells = refl
length-cut_rows (suc n) width cells = ap suc (length-cut_rows n width (drop width cells))

-- a cell of a row is the one that stands so many places behind the rows before it
pub cell_in : (n width : ℕ) (cells : List Cell) (row col : ℕ) → row < n → col < width
    → get_or (get_or (cut_rows n width cells) row []) col None ≡ get_or cells (row * width + col) None
cell_in zero width cells row col less within = absurd (omega arith)
cell_in (suc n) width cells zero col less within =
    let place : col ≡ 0 * width + col = omega arith in
    get_or-take width cells col None within ∙ ap (λ i. get_or cells i None) place
cell_in (suc n) width cells (suc row) col less within =
    let place : width + (row * width + col) ≡ suc row * width + col = omega arith in
    cell_in n width (drop width cells) row col (omega arith) within
    ∙ get_or-drop width cells (row * width + col) None
    ∙ ap (λ i. get_or cells i None) place

short : (width : ℕ) (cells : List Cell) → length (take width cells) ≤ width
short zero cells = omega arith
short (suc width) [] = omega arith
short (suc width) (c ∷ cells) = let rest = short width cells in omega arith

-- no row has a cell past its width
pub cell_past : (n width : ℕ) (cells : List Cell) (row col : ℕ) → width ≤ col → get_or (get_or (cut_rows n width cells) row []) col None ≡ None
cell_past zero width cells row col past = refl
cell_past (suc n) width cells zero col past = let most = short width cells in get_or_past (take width cells) col None (omega arith)
cell_past (suc n) width cells (suc row) col past = cell_past n width (drop width cells) row col past

-- and there is no row past the last
pub row_past : (n width : ℕ) (cells : List Cell) (row col : ℕ) → n ≤ row → get_or (get_or (cut_rows n width cells) row []) col None ≡ None
row_past n width cells row col past =
    ap (λ r. get_or r col None) (get_or_past (cut_rows n width cells) row [] (omega (arith, length-cut_rows n width cells)))

-- what holds of each cell holds of each cell of each row
pub All-cut_rows : (n width : ℕ) (cells : List Cell) → All HasText cells → All (All HasText) (cut_rows n width cells)
All-cut_rows zero width cells all = All-nil (All HasText)
All-cut_rows (suc n) width cells all =
    All-cons (All HasText) _ _ (All-take HasText width cells all) (All-cut_rows n width (drop width cells) (All-drop HasText width cells all))
