-- What is gathered over a list that is seen item by item.
use Rattle.std.proofs.Common.{◌≡◌, refl, ◌∙◌, ap, ℕ, zero, suc, arith, ◌+◌, ◌<◌, ◌≤◌, set, List, [], ◌∷◌, ◌++◌, length, get_or, take, map}
use Rattle.std.specs.List.{flat_map}
use Rattle.std.proofs.lemmas.List.{append-nil, take_more, map-append}
use Rattle.std.proofs.lemmas.Grind.{flat_map-append}

module _ {X Y A : Type 0} (f : Y → List A) (g : X → Y) where
  one_more : (xs : List X) (x : X) → flat_map f (map g (xs ++ x ∷ [])) ≡ flat_map f (map g xs) ++ f (g x)
  one_more xs x = ap (flat_map f) (map-append g xs (x ∷ [])) ∙ flat_map-append f (map g xs) (g x ∷ []) ∙ ap (λ last. flat_map f (map g xs) ++ last) (append-nil (f (g x)))

  -- the pieces of one item more
  pub next : (xs : List X) (i : ℕ) (d : X) → i < length xs → flat_map f (map g (take (i + 1) xs)) ≡ flat_map f (map g (take i xs)) ++ f (g (get_or xs i d))
  next xs i d lt = ap (λ front. flat_map f (map g front)) (take_more xs i d lt) ∙ one_more (take i xs) (get_or xs i d)

-- what is made of each item as it is seen, with one item more
pub next_seen : {X Y A : Type 0} (f : Y → A) (g : X → Y) (xs : List X) (i : ℕ) (d : X) → i < length xs → map f (map g (take (i + 1) xs)) ≡ map f (map g (take i xs)) ++ f (g (get_or xs i d)) ∷ []
next_seen f g xs i d lt = rw (take_more xs i d lt, map-append, map-append) refl

-- the items with so many of them changed
abbrev pub partly : {X : Type 0} → (X → X) → ℕ → List X → List X
partly f zero xs = xs
partly f (suc i) [] = []
partly f (suc i) (x ∷ xs) = f x ∷ partly f i xs

partly-suc : {X : Type 0} (f : X → X) (xs : List X) (i : ℕ) (d : X) → i < length xs → set (partly f i xs) i (f (get_or (partly f i xs) i d)) ≡ partly f (suc i) xs
partly-suc f [] i d lt = absurd (omega arith)
partly-suc f (x ∷ xs) zero d lt = refl
partly-suc f (x ∷ xs) (suc i) d lt = ap (λ rest. f x ∷ rest) (partly-suc f xs i d (omega arith))

-- one item more is changed
pub partly_next : {X : Type 0} (f : X → X) (xs now : List X) (i : ℕ) (d y : X) → i < length xs → now ≡ partly f i xs → y ≡ f (get_or now i d) → set now i y ≡ partly f (i + 1) xs
partly_next f xs now i d y lt so made = let same : i + 1 ≡ suc i = omega arith in rw (made, so, same) (partly-suc f xs i d lt)

pub partly_all : {X : Type 0} (f : X → X) (xs : List X) (i : ℕ) → length xs ≤ i → partly f i xs ≡ map f xs
partly_all f [] zero le = refl
partly_all f [] (suc i) le = refl
partly_all f (x ∷ xs) zero le = absurd (omega arith)
partly_all f (x ∷ xs) (suc i) le = ap (λ rest. f x ∷ rest) (partly_all f xs i (omega arith))
