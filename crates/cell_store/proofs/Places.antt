-- A grid that stretches of a text hold: its cells by row and column, and one cell more.
use Rattle.std.proofs.Common.{◌≡◌, ◌∙◌, sym, refl, ap, subst, ℕ, ◌+◌, ◌-◌, ◌*◌, ◌/◌, ◌%◌, ◌<◌, ◌≤◌, nat_lt, true, false, List, [], ◌∷◌, ◌++◌, length, get_or, None, Some, arith, rules, lit<, mul-le-mul_right, length-append, append_assoc}
use Rattle.std.proofs.Math.Seq.{drop-append_seam, take-append_seam, get_or-append_seam}
use Rattle.std.proofs.lemmas.List.{append-nil}
use Rattle.std.proofs.lemmas.Bool.Decides.{nat_tests}
use Rattle.std.proofs.lemmas.Str.{IsUtf8-nil, IsUtf8-append, IsUtf8-encode, encode_ascii, IsCharBoundary-end}
use Rattle.std.specs.Str.{IsUtf8}
use Rattle.cell_store.specs.Grid.{Grid, full_rows, unfinished, cell_at, with_cell}
use Rattle.cell_store.specs.Stretches.{cell_between, cells_from, IsStretch, AreStretches}
use Rattle.cell_store.proofs.Stretches.{length-cells_from, cell_from, cells_from-append, AreStretches-append}

-- the grid of a text whose stretches end at these places
abbrev pub grid_of : ℕ → List ℕ → List ℕ → Grid
grid_of cols text ends = record { cols = cols; cells = cells_from text 0 ends }

-- a cell of a full row is there
place_in_row : (row col cols n : ℕ) → row < n / cols → col < cols → row * cols + col < n
place_in_row row col cols n full in_row = omega (arith, mul-le-mul_right cols full)

pub place_there : (grid : Grid) (cols : ℕ) (text ends : List ℕ) (row col : ℕ) → grid_of cols text ends ≡ grid → row < full_rows grid → col < grid.cols
    → row * cols + col < length ends
place_there grid cols text ends row col is full in_row =
    let P : Grid → Type 0 = λ g. row < full_rows g in
    let Q : Grid → Type 0 = λ g. col < g.cols in
    let rows : row < length (cells_from text 0 ends) / cols = subst P (sym is) full in
    place_in_row row col cols (length ends) (rw (length-cells_from text 0 ends) at rows) (subst Q (sym is) in_row)

pub cell_there : (grid : Grid) (cols : ℕ) (text ends : List ℕ) (row col : ℕ) → grid_of cols text ends ≡ grid → row * cols + col < length ends
    → cell_between text (get_or (0 ∷ ends) (row * cols + col) 0) (get_or ends (row * cols + col) 0) ≡ cell_at grid row col
cell_there grid cols text ends row col is there =
    sym (cell_from text 0 ends (row * cols + col) there) ∙ ap (λ g. cell_at g row col) is

pub rows_are : (grid : Grid) (cols : ℕ) (text ends : List ℕ) → grid_of cols text ends ≡ grid → length ends / cols ≡ full_rows grid
rows_are grid cols text ends is = ap (λ n. n / cols) (sym (length-cells_from text 0 ends)) ∙ ap full_rows is

pub pending_are : (grid : Grid) (cols : ℕ) (text ends : List ℕ) → grid_of cols text ends ≡ grid → length ends % cols ≡ unfinished grid
pending_are grid cols text ends is = ap (λ n. n % cols) (sym (length-cells_from text 0 ends)) ∙ ap unfinished is

-- one cell more keeps to the limit of rows
pub room : (grid : Grid) (cols : ℕ) (text ends : List ℕ) → grid_of cols text ends ≡ grid → full_rows grid < 1_000_000 → 1 ≤ cols → length ends + 1 ≤ 1_000_000 * cols
room grid cols text ends is few some =
    let rows : length ends / cols < 1_000_000 = rw (rows_are grid cols text ends is) few in
    omega (arith, mul-le-mul_right cols rows)

pub grid_more : (grid : Grid) (cols : ℕ) (text more ends : List ℕ) (end : ℕ) → grid_of cols text ends ≡ grid → AreStretches text 0 ends
    → grid_of cols (text ++ more) (ends ++ (end ∷ [])) ≡ with_cell grid (cell_between (text ++ more) (length text) end)
grid_more grid cols text more ends end is stretches =
    ap (λ cells. record { cols = cols; cells = cells }) (cells_from-append text more 0 end ends stretches)
    ∙ ap (λ g. with_cell g (cell_between (text ++ more) (length text) end)) is

-- a null more
pub null_stretches : (text ends : List ℕ) → AreStretches text 0 ends → AreStretches text 0 (ends ++ (length text ∷ []))
null_stretches text ends stretches =
    let same = append-nil text in
    let last : IsStretch (text ++ []) (length text) (length text) = rw same (record {
      order = omega arith;
      within = omega arith;
      closed = λ less. absurd (omega arith);
      cut = IsCharBoundary-end text;
    }) in
    let all = AreStretches-append text [] 0 (length text) ends IsUtf8-nil stretches last (ap length (sym same)) in
    rw same at all

pub null_grid : (grid : Grid) (cols : ℕ) (text ends : List ℕ) → grid_of cols text ends ≡ grid → AreStretches text 0 ends
    → grid_of cols text (ends ++ (length text ∷ [])) ≡ with_cell grid None
null_grid grid cols text ends is stretches =
    let none : nat_lt (length text) (length text) ≡ false = grind (arith, nat_tests) in
    let more = grid_more grid cols text [] ends (length text) is stretches in
    rw (append-nil text, none) at more

-- where the text of one cell more ends
abbrev pub closed_end : List ℕ → List ℕ → ℕ
closed_end text cell = length text + length cell + 1

pub length-closed : (text cell : List ℕ) → length ((text ++ cell) ++ (10 ∷ [])) ≡ closed_end text cell
length-closed text cell = simp length-append (omega arith)

closed_utf8 : (cell : List ℕ) → IsUtf8 cell → IsUtf8 (cell ++ (10 ∷ []))
closed_utf8 cell utf8 = IsUtf8-append cell (10 ∷ []) utf8 (rw (encode_ascii 10 (lit< tt)) at (IsUtf8-encode 10 (search rules)))

closed_cell : (text cell : List ℕ) → cell_between (text ++ (cell ++ (10 ∷ []))) (length text) (closed_end text cell) ≡ Some cell
closed_cell text cell =
    let some : nat_lt (length text) (closed_end text cell) ≡ true = grind (arith, nat_tests) in
    let size : closed_end text cell - 1 - length text ≡ length cell = omega arith in
    rw (some, size, drop-append_seam text (cell ++ (10 ∷ [])), take-append_seam cell (10 ∷ [])) refl

-- and a text
pub text_stretches : (text cell ends : List ℕ) → IsUtf8 cell → AreStretches text 0 ends → AreStretches ((text ++ cell) ++ (10 ∷ [])) 0 (ends ++ (closed_end text cell ∷ []))
text_stretches text cell ends utf8 stretches =
    let size : length (text ++ (cell ++ (10 ∷ []))) ≡ closed_end text cell = omega (arith, length-append text (cell ++ (10 ∷ [])), length-append cell (10 ∷ [])) in
    let closing : get_or (text ++ (cell ++ (10 ∷ []))) (closed_end text cell - 1) 0 ≡ 10 =
    let at : closed_end text cell - 1 ≡ length (text ++ cell) = omega (arith, length-append text cell) in
    rw (at, ← append_assoc text cell (10 ∷ []), get_or-append_seam (text ++ cell) 10 [] 0) refl in
    let last : IsStretch (text ++ (cell ++ (10 ∷ []))) (length text) (closed_end text cell) = record {
      order = omega arith;
      within = omega arith;
      closed = λ less. rw closing (lit< tt);
      cut = rw (← size) (IsCharBoundary-end (text ++ (cell ++ (10 ∷ []))));
    } in
    rw (append_assoc text cell (10 ∷ [])) (AreStretches-append text (cell ++ (10 ∷ [])) 0 (closed_end text cell) ends (closed_utf8 cell utf8) stretches last (sym size))

pub text_grid : (grid : Grid) (cols : ℕ) (text cell ends : List ℕ) → grid_of cols text ends ≡ grid → AreStretches text 0 ends
    → grid_of cols ((text ++ cell) ++ (10 ∷ [])) (ends ++ (closed_end text cell ∷ [])) ≡ with_cell grid (Some cell)
text_grid grid cols text cell ends is stretches =
    let more = grid_more grid cols text (cell ++ (10 ∷ [])) ends (closed_end text cell) is stretches in
    rw (append_assoc text cell (10 ∷ [])) (rw (closed_cell text cell) at more)
