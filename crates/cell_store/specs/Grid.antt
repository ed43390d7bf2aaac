-- Cells that fill rows of one width, from left to right.
use Rattle.std.specs.Prelude.{ℕ, ◌+◌, ◌*◌, ◌/◌, ◌%◌, ◌++◌, List, [], ◌∷◌, length, get_or}
use Rattle.std.specs.Prelude.{Option, None}

-- the cells in the order in which they came, each null or a text, and how many a row has
pub record Grid : Type 0 where
  pub cols : ℕ
  pub cells : List (Option (List ℕ))

-- how many rows are full
abbrev pub full_rows : Grid → ℕ
full_rows grid = length grid.cells / grid.cols

-- how many cells the unfinished row has
abbrev pub unfinished : Grid → ℕ
unfinished grid = length grid.cells % grid.cols

-- the cell in this row and column
abbrev pub cell_at : Grid → ℕ → ℕ → Option (List ℕ)
cell_at grid row col = get_or grid.cells (row * grid.cols + col) None

-- the grid with one cell more
abbrev pub with_cell : Grid → Option (List ℕ) → Grid
with_cell grid cell = record { cols = grid.cols; cells = grid.cells ++ (cell ∷ []) }
