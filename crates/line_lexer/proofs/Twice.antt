-- Whether a text stands twice, one text after another.
use Rattle.std.proofs.Common.{◌≡◌, refl, ap, ◌∙◌, ◌||◌, ℕ, ◌-◌, ◌≤◌, Bool, true, false, List, [], ◌∷◌, map, take, drop, length, get_or, arith, take_all}
use Rattle.std.specs.List.{list_any}
use Rattle.std.specs.Str.{bytes_eq}
use Rattle.line_lexer.specs.Judging.{has_twice}

pub any_of_map : {X Y : Type 0} (p : Y → Bool) (f : X → Y) (xs : List X) → list_any p (map f xs) ≡ list_any (λ x. p (f x)) xs
any_of_map p f [] = refl
any_of_map p f (x ∷ xs) = ap (λ b. p (f x) || b) (any_of_map p f xs)

module _ {T : Type 0} (f : T → List ℕ) where
  behind_first : (x : T) (xs : List T) → take (length (x ∷ xs) - 1) (drop 1 (x ∷ xs)) ≡ xs
  behind_first x xs = let n : length (x ∷ xs) - 1 ≡ length xs = omega arith in rw n (take_all (length xs) xs (omega arith))

  -- the first text is among those behind it
  pub twice_now : (whole : Bool) (xs : List T) (d : T) → 1 ≤ length xs → whole ≡ has_twice (map f xs)
      → true ≡ list_any (λ t. bytes_eq (f (get_or xs 0 d)) (f t)) (take (length xs - 1) (drop 1 xs)) → true ≡ whole
  twice_now whole [] d some so is = absurd (omega arith)
  twice_now whole (x ∷ xs) d some so is =
      let first : true ≡ list_any (λ t. bytes_eq (f x) (f t)) xs = rw behind_first at is in
      rw (so, any_of_map (bytes_eq (f x)) f xs, ← first) refl

  -- it is not, and those behind it remain
  pub twice_later : (whole : Bool) (xs : List T) (d : T) → 1 ≤ length xs → whole ≡ has_twice (map f xs)
      → false ≡ list_any (λ t. bytes_eq (f (get_or xs 0 d)) (f t)) (take (length xs - 1) (drop 1 xs)) → whole ≡ has_twice (map f (take (length xs - 1) (drop 1 xs)))
  twice_later whole [] d some so is = absurd (omega arith)
  twice_later whole (x ∷ xs) d some so is =
      let first : false ≡ list_any (λ t. bytes_eq (f x) (f t)) xs = rw behind_first at is in
      rw (so, behind_first x xs, any_of_map (bytes_eq (f x)) f xs, ← first) refl
