-- Mappings by their names.
use Rattle.std.proofs.Common.{◌≡◌, refl, sym, ◌∙◌, ap, ℕ, zero, suc, ◌+◌, ◌<◌, ◌≤◌, Bool, true, false, not, nat_lt, cond, List, [], ◌∷◌, length, Some, None, map, arith}
use Rattle.std.specs.Prelude.{option_map, slice_get}
use Rattle.std.specs.List.{position, prefix_len}
use Rattle.std.specs.Str.{bytes_eq}
use Rattle.std.proofs.lemmas.List.{length-map}
use Rattle.std.proofs.lemmas.Bool.{lt-ltb}
use Rattle.std.proofs.lemmas.Slice.Eq.{bytes_eq-Decides}
use Rattle.mapping_facts.specs.declared.mapping.Mapping.{Mapping}
use Rattle.derivation_text.specs.Reading.{mapping_number}
use Rattle.line_lexer.specs.Names.{AreNames}
use Rattle.line_lexer.specs.Shapes.{is_word}
use Rattle.vocabulary.specs.Lists.{item}

passed_named : (p : List ℕ → Bool) (ms : List Mapping) → prefix_len p (map (λ m. m.name) ms) ≡ prefix_len (λ m. p m.name) ms
passed_named p [] = refl
passed_named p (m ∷ ms) = rw (passed_named p ms) refl

pub position_named : (name : List ℕ) (ms : List Mapping) → position (bytes_eq name) (map (λ m. m.name) ms) ≡ position (λ m. bytes_eq name m.name) ms
position_named name ms = rw (passed_named (λ text. not (bytes_eq name text)) ms, length-map ms (λ m. m.name)) refl

pub item_named : (ms : List Mapping) (n : ℕ) → item (map (λ m. m.name) ms) n ≡ option_map (λ m. m.name) (item ms n)
item_named ms zero = refl
item_named ms (suc n) = at ms n
  where
    at : (ms : List Mapping) (n : ℕ) → slice_get (map (λ m. m.name) ms) n ≡ option_map (λ m. m.name) (slice_get ms n)
    at [] n = refl
    at (m ∷ ms) zero = refl
    at (m ∷ ms) (suc n) = at ms n

-- names that differ are found at their own places
module _ (name : List ℕ) where
  at_place : (names : List (List ℕ)) (k : ℕ) → ((i j : ℕ) (text : List ℕ) → slice_get names i ≡ Some text → slice_get names j ≡ Some text → i ≡ j) → slice_get names k ≡ Some name →
      prefix_len (λ text. not (bytes_eq name text)) names ≡ k
  at_place [] k differ is = cc
  at_place (x ∷ names) zero differ is =
      let same : name ≡ x = cc in
      let told : bytes_eq name x ≡ true = (bytes_eq-Decides name x).1 same in
      rw told refl
  at_place (x ∷ names) (suc k) differ is =
      let told : bytes_eq name x ≡ false = other (bytes_eq name x) refl in
      let more = at_place names k (λ i j text e f. (let next : suc i ≡ suc j = differ (suc i) (suc j) text e f in omega (arith, next))) is in
      rw told (omega (arith, more))
    where
      other : (t : Bool) → bytes_eq name x ≡ t → bytes_eq name x ≡ false
      other false e = e
      other true e =
          let same : Some x ≡ Some name = ap Some (sym ((bytes_eq-Decides name x).0 e)) in
          let wrong : zero ≡ suc k = differ zero (suc k) name same is in
          absurd (omega (arith, wrong))

there_is : (names : List (List ℕ)) (k : ℕ) → k < length names → (name : List ℕ) × (slice_get names k ≡ Some name)
there_is [] k low = absurd (omega arith)
there_is (x ∷ names) zero low = (x, refl)
there_is (x ∷ names) (suc k) low = there_is names k (omega (arith, low))

within : (names : List (List ℕ)) (k : ℕ) (name : List ℕ) → slice_get names k ≡ Some name → k < length names
within [] k name is = cc
within (x ∷ names) zero name is = omega arith
within (x ∷ names) (suc k) name is = let low = within names k name is in omega (arith, low)

-- a mapping's number is found by its name
pub found_named : (names : List (List ℕ)) → AreNames names → (m : ℕ) → 1 ≤ m → m ≤ length names → (name : List ℕ) × (is_word name ≡ true) × (item names m ≡ Some name) × (mapping_number names name ≡ Some m)
found_named names are zero some few = absurd (omega (arith, some))
found_named names are (suc k) some few =
    let found = there_is names k (omega (arith, few)) in
    let at : prefix_len (λ text. not (bytes_eq found.0 text)) names ≡ k = at_place found.0 names k are.differ found.1 in
    let low : k < length names = omega (arith, few) in
    let next : k + 1 ≡ suc k = omega arith in
    let number : mapping_number names found.0 ≡ Some (suc k) =
    ap (λ n. option_map (λ i. i + 1) (cond (nat_lt n (length names)) (Some n) None)) at ∙ ap (λ t. option_map (λ i. i + 1) (cond t (Some k) None)) (lt-ltb k (length names) low) ∙ ap Some next in
    (found.0, are.words k found.0 found.1, found.1, number)
