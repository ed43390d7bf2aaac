-- Lists through a function on their items.
use Rattle.std.proofs.Common.{◌≡◌, refl, ap, ◌∙◌, ◌||◌, ℕ, zero, suc, ◌+◌, ◌<◌, ◌≤◌, Bool, true, false, List, [], ◌∷◌, ◌++◌, Option, map, take, drop, length, get_or, arith, add-one, drop-cons, cond, not, position, option_map, slice_get}
use Rattle.std.proofs.Math.ListN.{set}
use Rattle.std.proofs.lemmas.Grind.{flat_map-append}
use Rattle.std.specs.List.{list_any, flat_map, filter_map, position_or_len}
use Rattle.std.proofs.lemmas.Option.{slice_get-map}
use Rattle.std.proofs.lemmas.List.{map-append, take_more, length-map, drop_all, append-nil}
use Rattle.std.proofs.lemmas.List.Elements.{filter_map-append}

module _ {X Y : Type 0} (f : X → Y) where
  -- what a function gives of one item more
  mapped_more : (xs : List X) (i : ℕ) (d : X) → i < length xs → map f (take (i + 1) xs) ≡ map f (take i xs) ++ f (get_or xs i d) ∷ []
  mapped_more xs i d lt = ap (map f) (take_more xs i d lt) ∙ map-append f (take i xs) (get_or xs i d ∷ [])

  -- what it keeps of one item more
  module _ {Z : Type 0} (h : Y → Option Z) where
    kept_more : (xs : List X) (i : ℕ) (d : X) → i < length xs → filter_map h (map f (take (i + 1) xs)) ≡ filter_map h (map f (take i xs)) ++ filter_map h (f (get_or xs i d) ∷ [])
    kept_more xs i d lt = ap (filter_map h) (mapped_more xs i d lt) ∙ filter_map-append h (map f (take i xs)) (f (get_or xs i d) ∷ [])

    -- what is kept so far, with that of one item more
    pub kept_push : (xs : List X) (i : ℕ) (d : X) (old new : List Z) → i < length xs → old ≡ filter_map h (map f (take i xs)) → new ≡ old ++ filter_map h (f (get_or xs i d) ∷ []) → new ≡ filter_map h (map f (take (i + 1) xs))
    kept_push xs i d old new lt so pushed = rw (pushed, so, kept_more xs i d lt) refl

module _ {X : Type 0} (f : X → X) where
  changed_suc : (xs : List X) (i : ℕ) (d : X) → i < length xs → set (map f (take i xs) ++ drop i xs) i (f (get_or (map f (take i xs) ++ drop i xs) i d)) ≡ map f (take (suc i) xs) ++ drop (suc i) xs
  changed_suc [] i d lt = absurd (omega arith)
  changed_suc (x ∷ xs) zero d lt = refl
  changed_suc (x ∷ xs) (suc i) d lt = ap (λ l. f x ∷ l) (changed_suc xs i d (omega arith))

  -- one item more is changed in its place
  pub changed_more : (xs ys : List X) (i : ℕ) (old new d : X) → i < length xs → ys ≡ map f (take i xs) ++ drop i xs → old ≡ get_or ys i d → new ≡ f old → set ys i new ≡ map f (take (i + 1) xs) ++ drop (i + 1) xs
  changed_more xs ys i old new d lt so was is = rw (is, was, so, add-one) (changed_suc xs i d lt)

position_or_len_of_map : {X Y : Type 0} (p : Y → Bool) (f : X → Y) (xs : List X) → position_or_len p (map f xs) ≡ position_or_len (λ x. p (f x)) xs
position_or_len_of_map p f [] = refl
position_or_len_of_map p f (x ∷ xs) = elim (p (f x)) as (λ b. cond (not b) (1 + position_or_len p (map f xs)) 0 ≡ cond (not b) (1 + position_or_len (λ x. p (f x)) xs) 0)
    [ true ↦ refl | false ↦ ap (λ n. 1 + n) (position_or_len_of_map p f xs) ]

pub position_of_map : {X Y : Type 0} (p : Y → Bool) (f : X → Y) (xs : List X) → position p (map f xs) ≡ position (λ x. p (f x)) xs
position_of_map p f xs = rw (position_or_len_of_map p f xs, length-map xs f) refl

pub get_of_map : {X Y : Type 0} (f : X → Y) (xs : List X) (k : ℕ) → slice_get (map f xs) k ≡ option_map f (slice_get xs k)
get_of_map f xs k = slice_get-map f xs k

pub map_of_map : {X Y Z : Type 0} (g : Y → Z) (f : X → Y) (xs : List X) → map g (map f xs) ≡ map (λ x. g (f x)) xs
map_of_map g f [] = refl
map_of_map g f (x ∷ xs) = ap (λ ys. g (f x) ∷ ys) (map_of_map g f xs)

pub mapped_push : {X Y : Type 0} (f : X → Y) (xs : List X) (x : X) → map f (xs ++ x ∷ []) ≡ map f xs ++ f x ∷ []
mapped_push f xs x = map-append f xs (x ∷ [])

-- whether an item passes a test, read one by one
module _ {X : Type 0} (p : X → Bool) (whole : Bool) (xs : List X) (i : ℕ) (d : X) (so : whole ≡ list_any p (drop i xs)) where
  here : i < length xs → whole ≡ (p (get_or xs i d) || list_any p (drop (suc i) xs))
  here lt = so ∙ ap (list_any p) (drop-cons xs i d lt)

  pub any_now : i < length xs → true ≡ p (get_or xs i d) → true ≡ whole
  any_now lt is = rw (here lt, ← is) refl

  pub any_later : i < length xs → false ≡ p (get_or xs i d) → whole ≡ list_any p (drop (i + 1) xs)
  any_later lt is = rw (here lt, ← is, add-one) refl

pub any_never : {X : Type 0} (p : X → Bool) (whole : Bool) (xs : List X) (i : ℕ) → whole ≡ list_any p (drop i xs) → length xs ≤ i → false ≡ whole
any_never p whole xs i so le = rw (so, drop_all i xs le) refl

pub length_of_map : {X Y : Type 0} (f : X → Y) (xs : List X) → length (map f xs) ≡ length xs
length_of_map f xs = length-map xs f

pub next_mapped : {X Y : Type 0} (f : X → Y) (xs : List X) (i : ℕ) (d : X) → i < length xs → map f (take (i + 1) xs) ≡ map f (take i xs) ++ f (get_or xs i d) ∷ []
next_mapped f xs i d lt = mapped_more f xs i d lt

pub next_gathered : {X Y : Type 0} (f : X → List Y) (xs : List X) (i : ℕ) (d : X) → i < length xs → flat_map f (take (i + 1) xs) ≡ flat_map f (take i xs) ++ f (get_or xs i d)
next_gathered f xs i d lt = ap (flat_map f) (take_more xs i d lt) ∙ flat_map-append f (take i xs) (get_or xs i d ∷ []) ∙ ap (λ last. flat_map f (take i xs) ++ last) (append-nil (f (get_or xs i d)))

pub gathered_of_map : {X Y Z : Type 0} (g : Y → List Z) (f : X → Y) (xs : List X) → flat_map g (map f xs) ≡ flat_map (λ x. g (f x)) xs
gathered_of_map g f [] = refl
gathered_of_map g f (x ∷ xs) = ap (λ ys. g (f x) ++ ys) (gathered_of_map g f xs)

pub mapped_step : {X Y : Type 0} (f : X → Y) (xs : List X) (i : ℕ) (d : X) (old new : List Y) (y : Y) → i < length xs → old ≡ map f (take i xs) → y ≡ f (get_or xs i d) → new ≡ old ++ y ∷ [] → new ≡ map f (take (i + 1) xs)
mapped_step f xs i d old new y lt so is pushed = rw (pushed, is, so, mapped_more f xs i d lt) refl

pub get_or_mapped : {X Y : Type 0} (f : X → Y) (xs : List X) (i : ℕ) (d : X) (e : Y) → i < length xs → get_or (map f xs) i e ≡ f (get_or xs i d)
get_or_mapped f [] i d e l = absurd (omega (arith, l))
get_or_mapped f (x ∷ xs) zero d e l = refl
get_or_mapped f (x ∷ xs) (suc i) d e l = get_or_mapped f xs i d e (omega (arith, l))
