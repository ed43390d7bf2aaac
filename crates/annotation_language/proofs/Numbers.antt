-- Variables by their numbers.
use Rattle.std.proofs.Common.{◌≡◌, refl, sym, ◌∙◌, ap, ℕ, ◌+◌, ◌<◌, ◌≤◌, ◌||◌, not, nat_lt, arith, Bor, Bool, true, false, if◌then◌else◌, List, [], ◌∷◌, ◌++◌, zero, suc, Option, Some, None, is_some, option_map, length, get_or, take}
use Rattle.std.specs.Str.{bytes_eq}
use Rattle.std.proofs.lemmas.Bool.Decides.{nat_tests}
use Rattle.std.specs.List.{list_any, prefix_len}
use Rattle.std.proofs.lemmas.List.{take_all, map-append}
use Rattle.indexmap.specs.IndexSet.{insert_key}
use Rattle.line_lexer.proofs.Twice.{any_of_map}
use Rattle.vocabulary.specs.Texts.{number_of}
use Rattle.annotation_language.specs.Lines.{each_once}
use Rattle.annotation_language.specs.Resolved.{texts}

-- some item passes if one does before the end
passes_below : {X : Type 0} (p : X → Bool) (xs : List X) → list_any p xs ≡ nat_lt (prefix_len (λ x. not (p x)) xs) (length xs)
passes_below p [] = refl
passes_below p (x ∷ xs) = let rest = passes_below p xs in by (p x) rest
  where
    by : (t : Bool) → list_any p xs ≡ nat_lt (prefix_len (λ x. not (p x)) xs) (length xs) → (t || list_any p xs) ≡ nat_lt (if not t then 1 + prefix_len (λ x. not (p x)) xs else 0) (length (x ∷ xs))
    by true rest = grind (arith, nat_tests)
    by false rest = rest ∙ grind (arith, nat_tests)

is_some-if : {X : Type 0} (t : Bool) (x : X) → is_some (if t then Some x else None) ≡ t
is_some-if true x = refl
is_some-if false x = refl

-- a text has a number if it stands there
pub is_numbered : (found : List (List ℕ)) (v : List ℕ) → list_any (bytes_eq v) found ≡ is_some (number_of found v)
is_numbered found v = passes_below (bytes_eq v) found ∙ sym (is_some-if _ _)

lt-suc : (n m : ℕ) → nat_lt (1 + n) (suc m) ≡ nat_lt n m
lt-suc n m = grind (arith, nat_tests)

lt-zero : (m : ℕ) → nat_lt 0 (suc m) ≡ true
lt-zero m = grind (arith, nat_tests)

-- a text that is not the first has the number behind
number_behind : (w : List ℕ) (found : List (List ℕ)) (v : List ℕ) → bytes_eq v w ≡ false → number_of (w ∷ found) v ≡ option_map (λ n. n + 1) (number_of found v)
number_behind w found v e =
    let n = prefix_len (λ x. not (bytes_eq v x)) found in
    rw e (ap (λ t. if t then Some (1 + n) else None) (lt-suc n (length found)) ∙ by n (nat_lt n (length found)))
  where
    by : (n : ℕ) (t : Bool) → (if t then Some (1 + n) else None) ≡ option_map (λ n. n + 1) (if t then Some n else None)
    by n true = let same : 1 + n ≡ n + 1 = omega arith in ap Some same
    by n false = refl

-- the number of the first text that is this one
pub number_first : (names : List (Bor (List ℕ))) (v : List ℕ) (n : ℕ) (d : Bor (List ℕ)) → list_any (bytes_eq v) (texts (take n names)) ≡ false → n < length names → bytes_eq v (get_or names n d).now ≡ true → Some n ≡ number_of (texts names) v
number_first [] v n d none lt e = absurd (omega arith)
number_first (w ∷ names) v zero d none lt e = rw (e, lt-zero (length (texts names))) refl
number_first (w ∷ names) v (suc n) d none lt e =
    let other : bytes_eq v w.now ≡ false = grind (arith, none) in
    let rest : list_any (bytes_eq v) (texts (take n names)) ≡ false = grind (arith, none) in
    let same : suc n ≡ n + 1 = omega arith in
    ap Some same ∙ sym (number_behind w.now (texts names) v other ∙ ap (option_map (λ n. n + 1)) (sym (number_first names v n d rest (omega arith) e)))

-- a text that does not stand there has no number
pub number_none : (found : List (List ℕ)) (v : List ℕ) → list_any (bytes_eq v) found ≡ false → None ≡ number_of found v
number_none found v none = by (number_of found v) (sym (is_numbered found v) ∙ none)
  where
    by : (o : Option ℕ) → is_some o ≡ false → None ≡ o
    by None e = refl
    by (Some n) e = grind arith

-- one that is not among any so far has no number
pub number_none_left : (names : List (Bor (List ℕ))) (v : List ℕ) (n : ℕ) → list_any (bytes_eq v) (texts (take n names)) ≡ false → length names ≤ n → list_any (bytes_eq v) (texts names) ≡ false
number_none_left names v n none le = let all = take_all n names le in rw all at none

pub each_once_append : (found vs ws : List (List ℕ)) → each_once found (vs ++ ws) ≡ each_once (each_once found vs) ws
each_once_append found [] ws = refl
each_once_append found (v ∷ vs) ws = each_once_append (if list_any (bytes_eq v) found then found else found ++ v ∷ []) vs ws

-- one more name among names
pub inserted : (names : List (Bor (List ℕ))) (v : Bor (List ℕ)) → texts (insert_key (λ x y. bytes_eq x.now y.now) names v) ≡ each_once (texts names) (v.now ∷ [])
inserted names v = rw (any_of_map (bytes_eq v.now) (λ name. name.now) names) (by (list_any (λ name. bytes_eq v.now name.now) names))
  where
    by : (t : Bool) → texts (if t then names else names ++ v ∷ []) ≡ (if t then texts names else texts names ++ v.now ∷ [])
    by true = refl
    by false = map-append (λ name. name.now) names (v ∷ [])
