-- The first line of a text, byte by byte.
use Rattle.std.proofs.Common.{◌≡◌, ◌≢◌, ◌∙◌, ap, sym, ℕ, Bool, ◌<◌, ◌+◌, ◌==◌, not, cond, List, [], ◌∷◌, ◌++◌, length, drop, get_or, append_assoc, ne_eqb}
use Rattle.std.specs.List.{take_while}
use Rattle.std.proofs.lemmas.List.{at_drop_more}
use Rattle.std.proofs.lemmas.List.Sums.{take_while-cons}

abbrev inside : ℕ → Bool
inside b = not (b == 10)

-- one byte more, which ends no line
pub line_more : (text old new : List ℕ) (i d : ℕ) → i < length text → get_or text i d ≢ 10 → old ++ take_while inside (drop i text) ≡ take_while inside text → new ≡ old ++ get_or text i d ∷ []
    → new ++ take_while inside (drop (i + 1) text) ≡ take_while inside text
line_more text old new i d within other so_far next =
    let b = get_or text i d in
    let rest = take_while inside (drop (i + 1) text) in
    let here : take_while inside (drop i text) ≡ b ∷ rest =
    at_drop_more (take_while inside) text i d within ∙ take_while-cons inside b (drop (i + 1) text) ∙ ap (λ t. cond (not t) (b ∷ rest) []) (ne_eqb b 10 other) in
    ap (λ xs. xs ++ rest) next ∙ append_assoc old (b ∷ []) rest ∙ ap (λ xs. old ++ xs) (sym here) ∙ so_far
