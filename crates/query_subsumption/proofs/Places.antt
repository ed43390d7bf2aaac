-- Items of a list by their places.
use Rattle.std.proofs.Common.{◌≡◌, sym, subst, ap, refl, ◌∙◌, ℕ, ◌+◌, ◌<◌, ◌≤◌, List, [], ◌∷◌, ◌++◌, length, take, get_or, map, ◌⊎◌, inl, inr, arith}
use Rattle.std.proofs.lemmas.List.{take_more, take_all, map-append}
use Rattle.vocabulary.specs.Lists.{In, here, there}
use Rattle.vocabulary.proofs.Lists.{In-append_cases}
use Rattle.vocabulary.proofs.Members.{In-from_Contains}

pub In-place : {X : Type 0} (xs : List X) (i : ℕ) (x : X) → i < length xs → x ≡ get_or xs i x → In x xs
In-place xs i x low is = In-from_Contains xs (i, low, sym is)

-- the front of a list grows by the item at the place
pub front_more : {X : Type 0} (xs : List X) (i : ℕ) (x : X) → i < length xs → x ≡ get_or xs i x → take (i + 1) xs ≡ take i xs ++ x ∷ []
front_more xs i x low is = take_more xs i x low ∙ ap (λ y. take i xs ++ y ∷ []) (sym is)

-- what holds of each item before a place, and of that at the place
pub each_more : {X : Type 0} (P : X → Type 0) (xs : List X) (i : ℕ) (x : X) → i < length xs → x ≡ get_or xs i x →
    ((y : X) → In y (take i xs) → P y) → P x → (y : X) → In y (take (i + 1) xs) → P y
each_more P xs i x low is before now y m =
    elim (In-append_cases (take i xs) (x ∷ []) (subst (λ zs. In y zs) (front_more xs i x low is) m)) [
      | inl h ↦ before y h
      | inr h ↦ elim h [ here e ↦ subst P e now | there k ↦ elim k [ ] ]
    ]

pub each_all : {X : Type 0} (P : X → Type 0) (xs : List X) (i : ℕ) → length xs ≤ i → ((y : X) → In y (take i xs) → P y) → (y : X) → In y xs → P y
each_all P xs i used before y m = before y (subst (λ zs. In y zs) (sym (take_all i xs used)) m)

-- two lists with a last item each
none_is_more : {X : Type 0} (x : X) (xs : List X) → [] ≡ xs ++ x ∷ [] → ⊥
none_is_more x [] e = cc
none_is_more x (y ∷ ys) e = cc

pub last_same : {X : Type 0} (xs ys : List X) (x y : X) → xs ++ x ∷ [] ≡ ys ++ y ∷ [] → (xs ≡ ys) × (x ≡ y)
last_same [] [] x y e = (refl, cc)
last_same [] (b ∷ ys) x y e = let h : [] ≡ ys ++ y ∷ [] = cc in absurd (none_is_more y ys h)
last_same (a ∷ xs) [] x y e = let h : [] ≡ xs ++ x ∷ [] = cc in absurd (none_is_more x xs h)
last_same (a ∷ xs) (b ∷ ys) x y e =
    let h : a ≡ b = cc in
    let k : xs ++ x ∷ [] ≡ ys ++ y ∷ [] = cc in
    let w = last_same xs ys x y k in (λ i. h i ∷ w.0 i, w.1)

-- an image of an item before the next place is one of an item before the place, or of that at the place
pub image_more : {X Y : Type 0} (f : X → Y) (xs : List X) (i : ℕ) (x : X) (y : Y) → i < length xs → x ≡ get_or xs i x → In y (map f (take (i + 1) xs)) → In y (map f (take i xs)) ⊎ (f x ≡ y)
image_more f xs i x y low is m =
    let e : map f (take (i + 1) xs) ≡ map f (take i xs) ++ f x ∷ [] = ap (map f) (front_more xs i x low is) ∙ map-append f (take i xs) (x ∷ []) in
    elim (In-append_cases (map f (take i xs)) (f x ∷ []) (subst (λ zs. In y zs) e m)) [ inl h ↦ inl h | inr h ↦ elim h [ here k ↦ inr k | there l ↦ elim l [ ] ] ]

pub nothing_left : {X : Type 0} (xs : List X) → length xs ≡ 0 → xs ≡ []
nothing_left [] e = refl
nothing_left (x ∷ xs) e = absurd (omega (arith, e))
