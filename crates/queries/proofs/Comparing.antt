-- Two lists compared from the front.
use Rattle.std.proofs.Common.{◌≡◌, refl, sym, ◌∙◌, ℕ, zero, suc, ◌+◌, ◌<◌, ◌≤◌, true, false, List, [], ◌∷◌, length, drop, get_or, ◌⊎◌, inl, inr, arith}
use Rattle.std.specs.declared.cmp.Ordering.{Ordering}
use Rattle.std.specs.declared.cmp.Ordering.TheVariants.{Less, Equal, Greater}
use Rattle.std.specs.Ordering.{nat_cmp, ordering_then, is_ne}
use Rattle.std.specs.Cmp.{nat_cmp_is}
use Rattle.std.specs.Cmp.Lexicographic.{slice_cmp}
use Rattle.std.proofs.lemmas.List.{drop_more}

then_found : (a b : Ordering) → true ≡ is_ne a → ordering_then a b ≡ a
then_found Less b h = refl
then_found Equal b h = cc
then_found Greater b h = refl

then_level : (a b : Ordering) → false ≡ is_ne a → ordering_then a b ≡ b
then_level Less b h = cc
then_level Equal b h = refl
then_level Greater b h = cc

drop_length : {X : Type 0} (n : ℕ) (xs : List X) → n ≤ length xs → length xs ≡ n + length (drop n xs)
drop_length zero xs l = omega arith
drop_length (suc n) [] l = absurd (omega (arith, l))
drop_length (suc n) (x ∷ xs) l = omega (arith, drop_length n xs (omega (arith, l)))

module _ {X : Type 0} (R : X → X → Ordering) where
  -- the list is left from a place on
  abbrev pub Left : List X → List X → ℕ → Type 0
  Left xs ys at = slice_cmp R (drop at xs) (drop at ys) ≡ slice_cmp R xs ys

  step_cmp : (xs ys : List X) (at : ℕ) (x y : X) (here : Ordering) → at < length xs → at < length ys → x ≡ get_or xs at x → y ≡ get_or ys at y → here ≡ R x y →
      ordering_then here (slice_cmp R (drop (at + 1) xs) (drop (at + 1) ys)) ≡ slice_cmp R (drop at xs) (drop at ys)
  step_cmp xs ys at x y here l k i j e =
      (λ n. ordering_then ((e ∙ (λ m. R (i m) (j m))) n) (slice_cmp R (drop (at + 1) xs) (drop (at + 1) ys))) ∙ (λ n. slice_cmp R (sym (drop_more xs at x l) n) (sym (drop_more ys at y k) n))

  pub found_cmp : (xs ys : List X) (at : ℕ) (x y : X) (here : Ordering) → at < length xs → at < length ys → x ≡ get_or xs at x → y ≡ get_or ys at y → here ≡ R x y →
      true ≡ is_ne here → Left xs ys at → here ≡ slice_cmp R xs ys
  found_cmp xs ys at x y here l k i j e n left = sym (then_found here (slice_cmp R (drop (at + 1) xs) (drop (at + 1) ys)) n) ∙ step_cmp xs ys at x y here l k i j e ∙ left

  pub next_cmp : (xs ys : List X) (at : ℕ) (x y : X) (here : Ordering) → at < length xs → at < length ys → x ≡ get_or xs at x → y ≡ get_or ys at y → here ≡ R x y →
      false ≡ is_ne here → Left xs ys at → Left xs ys (at + 1)
  next_cmp xs ys at x y here l k i j e n left = sym (then_level here (slice_cmp R (drop (at + 1) xs) (drop (at + 1) ys)) n) ∙ step_cmp xs ys at x y here l k i j e ∙ left

  -- where one list is used up, the lengths decide
  used_up : (n m at : ℕ) (ds es : List X) → n ≡ at + length ds → m ≡ at + length es → (n ≤ at) ⊎ (m ≤ at) → nat_cmp n m ≡ slice_cmp R ds es
  used_up n m at [] [] a b h = sym (nat_cmp_is n m Equal (omega (arith, a, b)))
  used_up n m at [] (e ∷ es) a b h = sym (nat_cmp_is n m Less (omega (arith, a, b)))
  used_up n m at (d ∷ ds) [] a b h = sym (nat_cmp_is n m Greater (omega (arith, a, b)))
  used_up n m at (d ∷ ds) (e ∷ es) a b h = elim h [ inl l ↦ absurd (omega (arith, l, a)) | inr l ↦ absurd (omega (arith, l, b)) ]

  pub end_cmp : (xs ys : List X) (at : ℕ) → at ≤ length xs → at ≤ length ys → (length xs ≤ at) ⊎ (length ys ≤ at) → Left xs ys at → nat_cmp (length xs) (length ys) ≡ slice_cmp R xs ys
  end_cmp xs ys at l k h left = used_up (length xs) (length ys) at (drop at xs) (drop at ys) (drop_length at xs l) (drop_length at ys k) h ∙ left
