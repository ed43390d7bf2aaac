-- The first item that does not pass a test.
use Rattle.std.proofs.Common.{◌≡◌, refl, ℕ, zero, suc, ◌+◌, ◌<◌, nat_lt, Bool, true, false, not, List, [], ◌∷◌, length, take, get_or, Some, None, arith}
use Rattle.std.specs.List.{list_all, position, prefix_len}
use Rattle.std.proofs.lemmas.Bool.{and_parts}
use Rattle.std.proofs.lemmas.Bool.Decides.{nat_tests}

passes : {X : Type 0} (p : X → Bool) (xs : List X) (i : ℕ) (d : X) → i < length xs → list_all p (take i xs) ≡ true → p (get_or xs i d) ≡ false
    → prefix_len (λ x. not (not (p x))) xs ≡ i
passes p [] i d less all fails = absurd (omega arith)
passes p (x ∷ xs) zero d less all fails = rw fails refl
passes p (x ∷ xs) (suc i) d less all fails =
    let both = and_parts (p x) (list_all p (take i xs)) all in
    let rest = passes p xs i d (omega arith) both.1 fails in
    let more : 1 + prefix_len (λ y. not (not (p y))) xs ≡ suc i = omega (arith, rest) in
    rw both.0 more

all_pass : {X : Type 0} (p : X → Bool) (xs : List X) → list_all p xs ≡ true → prefix_len (λ x. not (not (p x))) xs ≡ length xs
all_pass p [] all = refl
all_pass p (x ∷ xs) all =
    let both = and_parts (p x) (list_all p xs) all in
    let rest = all_pass p xs both.1 in
    let more : 1 + prefix_len (λ y. not (not (p y))) xs ≡ suc (length xs) = omega (arith, rest) in
    rw both.0 more

pub first_missing : {X : Type 0} (p : X → Bool) (xs : List X) (i : ℕ) (d : X) → i < length xs → list_all p (take i xs) ≡ true → p (get_or xs i d) ≡ false
    → position (λ x. not (p x)) xs ≡ Some i
first_missing p xs i d less all fails =
    let there : nat_lt i (length xs) ≡ true = grind (arith, nat_tests) in
    rw (passes p xs i d less all fails, there) refl

pub none_missing : {X : Type 0} (p : X → Bool) (xs : List X) → list_all p xs ≡ true → position (λ x. not (p x)) xs ≡ None
none_missing p xs all =
    let past : nat_lt (length xs) (length xs) ≡ false = grind (arith, nat_tests) in
    rw (all_pass p xs all, past) refl
