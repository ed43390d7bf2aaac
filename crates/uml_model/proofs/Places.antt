-- Names that differ have their places as numbers.
use Rattle.std.proofs.Common.{ℕ, zero, suc, ◌≡◌, refl, sym, subst, ap, ◌∙◌, ◌<◌, ◌+◌, List, [], ◌∷◌, ◌++◌, Option, Some, None, take, length, get_or, arith, MatchOption}
use Rattle.std.specs.Str.{bytes_eq}
use Rattle.std.proofs.lemmas.List.{take_more}
use Rattle.std.proofs.lemmas.List.Quantifiers.{position-Some}
use Rattle.std.proofs.lemmas.Slice.Eq.{bytes_eq-Decides}
use Rattle.vocabulary.specs.Lists.{In, here, there}
use Rattle.vocabulary.specs.Texts.{number_of, Numbers}
use Rattle.vocabulary.proofs.Lists.{In-append_left, In-append_right}
use Rattle.uml_model.specs.Sorts.{AreDifferent}

pub different_left : (xs ys : List (List ℕ)) → AreDifferent (xs ++ ys) → AreDifferent xs
different_left [] ys d = tt
different_left (x ∷ xs) ys d = (λ m. d.0 (In-append_left ys m), different_left xs ys d.1)

pub different_right : (xs ys : List (List ℕ)) → AreDifferent (xs ++ ys) → AreDifferent ys
different_right [] ys d = d
different_right (x ∷ xs) ys d = different_right xs ys d.1

In-at : (xs : List (List ℕ)) (i : ℕ) (d : List ℕ) → i < length xs → In (get_or xs i d) xs
In-at [] i d lt = absurd (omega arith)
In-at (x ∷ xs) zero d lt = here refl
In-at (x ∷ xs) (suc i) d lt = there (In-at xs i d (omega arith))

-- an item is none of those before it
absent : (xs : List (List ℕ)) (i : ℕ) (d : List ℕ) → AreDifferent xs → i < length xs → In (get_or xs i d) (take i xs) → ⊥
absent [] i d differ lt m = absurd (omega arith)
absent (x ∷ xs) zero d differ lt m = elim m [ ]
absent (x ∷ xs) (suc i) d differ lt (here e) = differ.0 (subst (λ y. In y xs) (sym e) (In-at xs i d (omega arith)))
absent (x ∷ xs) (suc i) d differ lt (there m) = absent xs i d differ.1 (omega arith) m

-- the next name takes its place
pub next_place : (names : List (List ℕ)) (i n : ℕ) (name text : List ℕ) (old new : List (List ℕ)) → AreDifferent names → i < length names → name ≡ get_or names i name → text ≡ name → old ≡ take i names → Numbers old new text n → new ≡ take (i + 1) names
next_place names i n name text old new differ lt item same so numbers = by (number_of old text) refl numbers
  where
    at_place : text ≡ get_or names i text
    at_place = subst (λ t. t ≡ get_or names i t) (sym same) item

    by : (o : Option ℕ) → number_of old text ≡ o → MatchOption o ((n ≡ length old) × (new ≡ old ++ text ∷ [])) (λ k. (n ≡ k) × (new ≡ old)) → new ≡ take (i + 1) names
    by None e h = h.1 ∙ ap (λ xs. xs ++ text ∷ []) so ∙ ap (λ x. take i names ++ x ∷ []) at_place ∙ sym (take_more names i text lt)
    by (Some k) e h =
        let at = position-Some (bytes_eq text) old k text e in
        let found : text ≡ get_or old k text = (bytes_eq-Decides text (get_or old k text)).0 at.1 in
        let there_before : In text old = subst (λ x. In x old) (sym found) (In-at old k text at.0) in
        elim (absent names i text differ lt (subst (λ x. In x (take i names)) at_place (subst (λ xs. In text xs) so there_before))) [ ]
