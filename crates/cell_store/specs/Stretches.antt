-- How one text buffer holds cells: a null is an empty stretch of it, and a text is a stretch with one closing byte behind the text.
use Rattle.std.specs.Prelude.{◌≡◌, ◌-◌, ◌<◌, ◌≤◌, if◌then◌else◌, nat_lt, ℕ, List, [], ◌∷◌, length, slice_index, slice_range}
use Rattle.std.specs.Prelude.{Option, None, Some}
use Rattle.std.specs.Str.{IsCharBoundary}

-- the cell that lies from `start` to `end`
abbrev pub cell_between : List ℕ → ℕ → ℕ → Option (List ℕ)
cell_between text start end = if nat_lt start end then Some (slice_range text start (end - 1)) else None

-- the cells that end at these places, the first of which begins at `start`
unfoldable pub cells_from : List ℕ → ℕ → List ℕ → List (Option (List ℕ))
cells_from text start [] = []
cells_from text start (end ∷ ends) = cell_between text start end ∷ cells_from text end ends

-- a stretch ends within the text, behind a closing ASCII byte if it is not empty
pub record IsStretch (text : List ℕ) (start end : ℕ) : Type 0 where
  pub order : start ≤ end
  pub within : end ≤ length text
  pub closed : start < end → slice_index text (end - 1) < 128
  pub cut : IsCharBoundary text end

-- stretches that end at these places fill the text from `start` to its end
unfoldable pub AreStretches : List ℕ → ℕ → List ℕ → Type 0
AreStretches text start [] = start ≡ length text
AreStretches text start (end ∷ ends) = IsStretch text start end × AreStretches text end ends
