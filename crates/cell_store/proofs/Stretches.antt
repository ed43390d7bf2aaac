-- Stretches of a text: how many there are, each by its number, and one more behind the others.
use Rattle.std.proofs.Common.{◌≡◌, refl, ap, ℕ, suc, zero, ◌+◌, ◌-◌, ◌*◌, ◌/◌, ◌<◌, ◌≤◌, nat_lt, List, [], ◌∷◌, ◌++◌, length, get_or, drop, None, arith, mul-le-mul_right, length-append, length-drop, inl, inr}
use Rattle.std.specs.Str.{IsCharBoundary, IsUtf8}
use Rattle.std.proofs.lemmas.Str.{IsCharBoundary-start, IsCharBoundary-at_seam}
use Rattle.std.proofs.lemmas.Bool.{cases_Bool, cases_lt}
use Rattle.std.proofs.lemmas.List.{take-append-le, drop-append-le, get_or_append_left}
use borrow.Author.Tests.{ltb-true}
use Rattle.cell_store.specs.Stretches.{cell_between, cells_from, IsStretch, AreStretches}

-- a cell of a full row is there
pub place_in_row : (row col cols n : ℕ) → row < n / cols → col < cols → row * cols + col < n
place_in_row row col cols n full in_row = omega (arith, mul-le-mul_right cols full)

pub length-cells_from : (text : List ℕ) (start : ℕ) (ends : List ℕ) → length (cells_from text start ends) ≡ length ends
unfolding cells_from
length-cells_from text start [] = refl
length-cells_from text start (end ∷ ends) = ap suc (length-cells_from text end ends)

-- the stretch of a number
pub stretch_at : (text : List ℕ) (start : ℕ) (ends : List ℕ) (i : ℕ) → AreStretches text start ends → i < length ends → IsStretch text (get_or (start ∷ ends) i 0) (get_or ends i 0)
unfolding AreStretches
stretch_at text start [] i h less = absurd (omega arith)
stretch_at text start (end ∷ ends) zero h less = h.0
stretch_at text start (end ∷ ends) (suc i) h less = stretch_at text end ends i h.1 (omega arith)

-- the text may be cut where a stretch begins
pub cut_at : (text : List ℕ) (ends : List ℕ) (i : ℕ) → IsUtf8 text → AreStretches text 0 ends → i < length ends → IsCharBoundary text (get_or (0 ∷ ends) i 0)
cut_at text ends zero u h less = IsCharBoundary-start text u
cut_at text ends (suc i) u h less = (stretch_at text 0 ends i h (omega arith)).cut

-- the cell of a number
pub cell_from : (text : List ℕ) (start : ℕ) (ends : List ℕ) (i : ℕ) → i < length ends
    → get_or (cells_from text start ends) i None ≡ cell_between text (get_or (start ∷ ends) i 0) (get_or ends i 0)
unfolding cells_from
cell_from text start [] i less = absurd (omega arith)
cell_from text start (end ∷ ends) zero less = refl
cell_from text start (end ∷ ends) (suc i) less = cell_from text end ends i (omega arith)

-- no stretch begins past the text's end
pub begins_within : (text : List ℕ) (start : ℕ) (ends : List ℕ) → AreStretches text start ends → start ≤ length text
unfolding AreStretches
begins_within text start [] h = omega arith
begins_within text start (end ∷ ends) h = let o = h.0.order in let w = h.0.within in omega arith

-- a cell stays as it is where text is put behind
pub cell_between-append : (text more : List ℕ) (start end : ℕ) → end ≤ length text → cell_between (text ++ more) start end ≡ cell_between text start end
cell_between-append text more start end h = elim (cases_Bool (nat_lt start end)) [
  | inr f ↦ rw f refl
  | inl t ↦
      let less : start < end = ltb-true start end t in
      let d : drop start (text ++ more) ≡ drop start text ++ more = drop-append-le start text more (omega arith) in
      let k : end - 1 - start ≤ length (drop start text) = omega (arith, length-drop start text) in
      rw (t, d, take-append-le (end - 1 - start) (drop start text) more k) refl
]

pub cells_from-append : (text more : List ℕ) (start end : ℕ) (ends : List ℕ) → AreStretches text start ends
    → cells_from (text ++ more) start (ends ++ (end ∷ [])) ≡ cells_from text start ends ++ (cell_between (text ++ more) (length text) end ∷ [])
unfolding cells_from AreStretches
cells_from-append text more start end [] h = ap (λ s. cell_between (text ++ more) s end ∷ []) h
cells_from-append text more start end (e ∷ ends) h =
    rw (cell_between-append text more start e h.0.within, cells_from-append text more e end ends h.1) refl

pub IsCharBoundary-append : (text more : List ℕ) (i : ℕ) → IsUtf8 more → IsCharBoundary text i → IsCharBoundary (text ++ more) i
IsCharBoundary-append text more i u h = elim (cases_lt i (length text)) [
  | inl less ↦ (omega (arith, length-append text more), λ in_range high. rw (get_or_append_left text more 0 i less) (h.1 less (rw (get_or_append_left text more 0 i less) at high)))
  | inr past ↦
      let seam : i ≡ length text = let w = h.0 in omega arith in
      rw seam (IsCharBoundary-at_seam (text ++ more) text more refl u)
]

IsStretch-append : (text more : List ℕ) (start end : ℕ) → IsUtf8 more → IsStretch text start end → IsStretch (text ++ more) start end
IsStretch-append text more start end u h = record {
  order = h.order;
  within = let w = h.within in omega (arith, length-append text more);
  closed = λ less. let w : end - 1 < length text = let v = h.within in omega arith in rw (get_or_append_left text more 0 (end - 1) w) (h.closed less);
  cut = IsCharBoundary-append text more end u h.cut;
}

-- one stretch more, up to the new end of the text
pub AreStretches-append : (text more : List ℕ) (start end : ℕ) (ends : List ℕ) → IsUtf8 more → AreStretches text start ends
    → IsStretch (text ++ more) (length text) end → end ≡ length (text ++ more) → AreStretches (text ++ more) start (ends ++ (end ∷ []))
unfolding AreStretches
AreStretches-append text more start end [] u h last e = (rw h last, e)
AreStretches-append text more start end (next ∷ ends) u h last e = (IsStretch-append text more start next u h.0, AreStretches-append text more next end ends u h.1 last e)
