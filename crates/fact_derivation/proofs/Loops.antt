-- Steps of loops over lists.
use Rattle.std.proofs.Common.{◌≡◌, sym, subst, ℕ, ◌+◌, ◌<◌, ◌≤◌, List, [], ◌∷◌, length, take, get_or, inl, inr}
use Rattle.std.proofs.lemmas.List.{take_all, take_more}
use Rattle.vocabulary.specs.Lists.{In, here, there}
use Rattle.vocabulary.proofs.Lists.{In-append_cases}
use Rattle.negative_closure.proofs.Places.{In-at}

pub item_listed : {X : Type 0} (list items : List X) (i : ℕ) (x : X) → items ≡ list → i < length items → x ≡ get_or items i x → In x list
item_listed list items i x e low is = subst (In x) e (subst (λ z. In z items) (sym is) (In-at items i x low))

-- what holds of the items so far, and of one more
pub one_more_at : {X : Type 0} (P : X → Type 0) (items : List X) (i : ℕ) (d : X) → i < length items → ((y : X) → In y (take i items) → P y) → P (get_or items i d) → (y : X) → In y (take (i + 1) items) → P y
one_more_at {X} P items i d low before this y m =
    elim (In-append_cases (take i items) (get_or items i d ∷ []) (subst (In y) (take_more items i d low) m)) [ inl k ↦ before y k | inr k ↦ only k ]
  where
    only : In y (get_or items i d ∷ []) → P y
    only (here e) = subst P e this
    only (there k) = elim k [ ]

pub one_more : {X : Type 0} (P : X → Type 0) (items : List X) (i : ℕ) (x : X) → i < length items → x ≡ get_or items i x → ((y : X) → In y (take i items) → P y) → P x → (y : X) → In y (take (i + 1) items) → P y
one_more P items i x low is before this = one_more_at P items i x low before (subst P is this)

pub all_of : {X : Type 0} (P : X → Type 0) (items : List X) (i : ℕ) → length items ≤ i → ((x : X) → In x (take i items) → P x) → (x : X) → In x items → P x
all_of P items i long all x m = all x (subst (In x) (sym (take_all i items long)) m)
