-- Lists through a function on their items, and places in them.
use Rattle.std.proofs.Common.{◌≡◌, refl, ap, subst, ◌∙◌, ◌||◌, ℕ, zero, suc, ◌+◌, ◌-◌, ◌<◌, ◌≤◌, Bool, true, false, List, [], ◌∷◌, ◌++◌, Some, map, take, length, get_or}
use Rattle.std.specs.List.{list_any, slice_get}
use Rattle.std.proofs.lemmas.List.{map-append, take_more}
use Rattle.vocabulary.specs.Lists.{In, here, there}

pub map_of_map : {X Y Z : Type 0} (g : Y → Z) (f : X → Y) (xs : List X) → map g (map f xs) ≡ map (λ x. g (f x)) xs
map_of_map g f [] = refl
map_of_map g f (x ∷ xs) = ap (λ ys. g (f x) ∷ ys) (map_of_map g f xs)

-- what a function gives of one item more
pub mapped_more : {X Y : Type 0} (f : X → Y) (xs : List X) (i : ℕ) (d : X) → i < length xs → map f (take (i + 1) xs) ≡ map f (take i xs) ++ f (get_or xs i d) ∷ []
mapped_more f xs i d lt = ap (map f) (take_more xs i d lt) ∙ map-append f (take i xs) (get_or xs i d ∷ [])

-- one item more goes through both functions
pub pushed_map : {X Y Z : Type 0} (g : Y → Z) (f : X → Y) (xs : List X) (i : ℕ) (d : X) (old new : List Z) (z : Z) → i < length xs → old ≡ map g (map f (take i xs)) → z ≡ g (f (get_or xs i d)) → new ≡ old ++ z ∷ [] →
    new ≡ map g (map f (take (i + 1) xs))
pushed_map g f xs i d old new z lt so is pushed = rw (pushed, is, so, mapped_more f xs i d lt, map-append) refl

pub kept_place : {X : Type 0} (xs ys : List X) (i : ℕ) (x : X) → slice_get xs i ≡ Some x → slice_get (xs ++ ys) i ≡ Some x
kept_place [] ys i x e = cc
kept_place (y ∷ xs) ys zero x e = e
kept_place (y ∷ xs) ys (suc i) x e = kept_place xs ys i x e

pub last_place : {X : Type 0} (xs : List X) (x : X) → slice_get (xs ++ x ∷ []) (length xs) ≡ Some x
last_place [] x = refl
last_place (y ∷ xs) x = last_place xs x

pub neither : (a b : Bool) → (a || b) ≡ false → (a ≡ false) × (b ≡ false)
neither true b h = cc
neither false b h = (refl, h)

-- no item passes a test that none passes
pub none_of : {X : Type 0} (p : X → Bool) (x : X) (xs : List X) → list_any p xs ≡ false → In x xs → p x ≡ false
none_of p x [] e m = elim m [ ]
none_of p x (y ∷ ys) e (here h) = subst (λ z. p z ≡ false) h (neither (p y) (list_any p ys) e).0
none_of p x (y ∷ ys) e (there m) = none_of p x ys (neither (p y) (list_any p ys) e).1 m

pub item_of_map : {X Y : Type 0} (f : X → Y) (y : Y) (xs : List X) → In y (map f xs) → (x : X) × In x xs × (f x ≡ y)
item_of_map f y [] m = elim m [ ]
item_of_map f y (x ∷ xs) (here h) = (x, here refl, h)
item_of_map f y (x ∷ xs) (there m) = let r = item_of_map f y xs m in (r.0, there r.1, r.2)
