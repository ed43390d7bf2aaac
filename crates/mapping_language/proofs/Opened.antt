-- The holes of a text, one behind the other.
use Rattle.std.proofs.Common.{◌≡◌, refl, ℕ, suc, ◌+◌, ◌<◌, ◌==◌, Bool, true, false, not, cond, List, [], ◌∷◌, ◌++◌, if◌then◌else◌, length, drop, arith, length-drop}
use Rattle.std.specs.List.{position_or_len, after_first}
use Rattle.iri_templates.specs.Templates.{hole_at}
use Rattle.mapping_language.specs.Mappings.{braced, holes}

abbrev opens : ℕ → Bool
opens b = b == 123

module _ (b : ℕ) (rest : List ℕ) where
  none_by : (position_or_len opens rest ≡ length rest → holes rest ≡ []) → (t : Bool) → cond (not t) (1 + position_or_len opens rest) 0 ≡ length (b ∷ rest)
      → (if t then braced (hole_at rest) else []) ++ holes rest ≡ []
  none_by next true e = absurd (omega arith)
  none_by next false e = next (omega arith)

  first_by : (position_or_len opens rest < length rest → holes rest ≡ braced (hole_at (after_first opens rest)) ++ holes (after_first opens rest))
      → (t : Bool) → cond (not t) (1 + position_or_len opens rest) 0 < length (b ∷ rest)
      → (if t then braced (hole_at rest) else []) ++ holes rest
      ≡ braced (hole_at (drop (cond (not t) (1 + position_or_len opens rest) 0 + 1) (b ∷ rest))) ++ holes (drop (cond (not t) (1 + position_or_len opens rest) 0 + 1) (b ∷ rest))
  first_by next true lt = refl
  first_by next false lt =
      let further : 1 + position_or_len opens rest + 1 ≡ suc (position_or_len opens rest + 1) = omega arith in
      rw further (next (omega arith))

-- a text without an opening brace has no hole
pub holes_none : (text : List ℕ) → position_or_len (λ b. b == 123) text ≡ length text → holes text ≡ []
unfolding holes
holes_none [] e = refl
holes_none (b ∷ rest) e = none_by b rest (holes_none rest) (b == 123) e

-- the hole that the first opening brace begins, and those behind it
pub holes_first : (text : List ℕ) → position_or_len (λ b. b == 123) text < length text → holes text ≡ braced (hole_at (after_first (λ b. b == 123) text)) ++ holes (after_first (λ b. b == 123) text)
unfolding holes
holes_first [] lt = absurd (omega arith)
holes_first (b ∷ rest) lt = first_by b rest (holes_first rest) (b == 123) lt

-- what stands behind the first opening brace is shorter
pub behind_shorter : (text behind : List ℕ) → behind ≡ after_first (λ b. b == 123) text → position_or_len (λ b. b == 123) text < length text → length behind < length text
behind_shorter text behind is lt = rw is (omega (arith, length-drop (position_or_len (λ b. b == 123) text + 1) text))
