-- What the definitions say of small grids and texts.
use Rattle.std.proofs.Common.{◌≡◌, refl, [], ◌∷◌, None, Some}
use Rattle.std.specs.Prelude.{codes}
use Rattle.cell_store.specs.Grid.{Grid, full_rows, unfinished, cell_at, with_cell}
use Rattle.cell_store.specs.Stretches.{cells_from}

abbrev empty : Grid
empty = record { cols = 2; cells = [] }

-- a row of `a` and a null
abbrev row : Grid
row = with_cell (with_cell empty (Some (codes "a"))) None

one_row : full_rows row ≡ 1
one_row = refl

no_rest : unfinished row ≡ 0
no_rest = refl

first_cell : cell_at row 0 0 ≡ Some (codes "a")
first_cell = refl

second_cell : cell_at row 0 1 ≡ None
second_cell = refl

-- one cell more begins the second row
begun : (full_rows (with_cell row (Some [])) ≡ 1) × (unfinished (with_cell row (Some [])) ≡ 1)
begun = (refl, refl)

-- an empty text is no null
empty_text : cell_at (with_cell (with_cell row (Some [])) None) 1 0 ≡ Some []
empty_text = refl

-- the stretches `ab`, a null, an empty text and `c`
stretches : cells_from (codes "ab\n\nc\n") 0 (3 ∷ 3 ∷ 4 ∷ 6 ∷ []) ≡ Some (codes "ab") ∷ None ∷ Some [] ∷ Some (codes "c") ∷ []
unfolding cells_from
stretches = refl
