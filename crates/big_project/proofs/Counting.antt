-- Texts of the numbers from 1 on, by one number more.
use Rattle.std.proofs.Common.{◌≡◌, ◌∙◌, ap, sym, ℕ, zero, suc, ◌+◌, List, [], ◌∷◌, ◌++◌, arith}
use Rattle.std.specs.List.{flat_map, range_with_len}
use Rattle.std.proofs.lemmas.List.{flat_map_more}

range_more : (a n : ℕ) → range_with_len a (suc n) ≡ range_with_len a n ++ (a + n) ∷ []
range_more a zero = let e : a ≡ a + 0 = omega arith in ap (λ x. x ∷ []) e
range_more a (suc n) =
    let e : a + 1 + n ≡ a + suc n = omega arith in
    ap (λ xs. a ∷ xs) (range_more (a + 1) n ∙ ap (λ x. range_with_len (a + 1) n ++ x ∷ []) e)

-- what the next number adds behind a front
pub one_more : (f : ℕ → List ℕ) (front old new : List ℕ) (n : ℕ) → old ≡ front ++ flat_map f (range_with_len 1 n) → new ≡ old ++ f (n + 1)
    → new ≡ front ++ flat_map f (range_with_len 1 (n + 1))
one_more f front old new n so_far next =
    let below : suc n ≡ n + 1 = omega arith in
    let last : 1 + n ≡ n + 1 = omega arith in
    next ∙ ap (λ text. text ++ f (n + 1)) so_far ∙ flat_map_more f front (range_with_len 1 n) (n + 1)
    ∙ ap (λ xs. front ++ flat_map f xs) (ap (λ x. range_with_len 1 n ++ x ∷ []) (sym last) ∙ sym (range_more 1 n) ∙ ap (range_with_len 1) below)
