-- What `parse` reads is what `int_value` says, and the digits of a number.
use Rattle.std.proofs.Common.{subst, ◌≡◌, refl, ap, ℕ, suc, ◌+◌, ◌/◌, ◌%◌, ◌<◌, ◌≤◌, true, false, ◌&&◌, ◌==◌, nat_lt, ℤ, pos, neg_ℤ, int_le, List, ◌∷◌, length, Some, Result, Ok, Err, arith, inl, inr, w64, FitsSigned}
use Rattle.std.specs.Result.{result_ok}
use Rattle.std.specs.Str.{all_ascii_digits}
use Rattle.std.specs.Str.Parse.{IsNumeral, digits_value, ParsesSigned, signed_digits_value, without_leading_sign}
use Rattle.std.specs.Fmt.{digits_onto}
use Rattle.std.proofs.lemmas.Bool.{cases_Bool, and_parts, and_from, lt-ltb, ltb-true, ne_eqb}
use Rattle.std.proofs.lemmas.Str.Parse.{tells_all_ascii_digits, numerals_by_value, IsNumeralModel}
use Rattle.jiff_core.proofs.SignedLemmas.{signed_arith}
use Rattle.civil_values.proofs.Digits.{passed, some_same}
use Rattle.civil_values.specs.Numbers.{is_integer, has_64_bits, int_value}

-- digits as a test and as a fact
pub own : IsNumeralModel (λ ds. all_ascii_digits ds ≡ true) (digits_value 10)
own = numerals_by_value _ tells_all_ascii_digits

is_integer-numeral : (text : List ℕ) → is_integer text ≡ true → IsNumeral 10 (without_leading_sign text)
is_integer-numeral text e =
    let both = and_parts (nat_lt 0 (length (without_leading_sign text))) (all_ascii_digits (without_leading_sign text)) e in
    (ltb-true 0 (length (without_leading_sign text)) both.0, own.to (without_leading_sign text) both.1)

numeral-is_integer : (text : List ℕ) → IsNumeral 10 (without_leading_sign text) → is_integer text ≡ true
numeral-is_integer text h =
    and_from (nat_lt 0 (length (without_leading_sign text))) (all_ascii_digits (without_leading_sign text)) (lt-ltb 0 (length (without_leading_sign text)) h.0) (own.from (without_leading_sign text) h.1)

pub has_64_bits-fits : (z : ℤ) → has_64_bits z ≡ true → FitsSigned w64 z
has_64_bits-fits z e =
    let both = and_parts (int_le (neg_ℤ (pos 9_223_372_036_854_775_808)) z) (int_le z (pos 9_223_372_036_854_775_807)) e in
    omega (arith, signed_arith)

fits-has_64_bits : (z : ℤ) → FitsSigned w64 z → has_64_bits z ≡ true
fits-has_64_bits z h =
    and_from (int_le (neg_ℤ (pos 9_223_372_036_854_775_808)) z) (int_le z (pos 9_223_372_036_854_775_807))
    (elim (cases_Bool (int_le (neg_ℤ (pos 9_223_372_036_854_775_808)) z)) [ inl t ↦ t | inr f ↦ absurd (omega (arith, signed_arith)) ])
    (elim (cases_Bool (int_le z (pos 9_223_372_036_854_775_807))) [ inl t ↦ t | inr f ↦ absurd (omega (arith, signed_arith)) ])

-- a number that a text spells has 64 bits
pub signed_value : (text : List ℕ) (z : ℤ) → int_value text ≡ Some z → FitsSigned w64 z
signed_value text z e =
    let p = passed (is_integer text && has_64_bits (signed_digits_value 10 text)) (Some (signed_digits_value 10 text)) z e in
    let both = and_parts (is_integer text) (has_64_bits (signed_digits_value 10 text)) p.0 in
    subst (λ (y : ℤ). FitsSigned w64 y) (some_same (signed_digits_value 10 text) z p.1) (has_64_bits-fits (signed_digits_value 10 text) both.1)

pub parsed : {E : Type 0} (text : List ℕ) (r : Result ℤ E) → ParsesSigned w64 10 text r → result_ok r ≡ int_value text
parsed text (Ok z) h =
    let tests = and_from (is_integer text) (has_64_bits (signed_digits_value 10 text)) (numeral-is_integer text h.0.0) (fits-has_64_bits (signed_digits_value 10 text) h.0.1) in
    rw tests (ap Some h.1)
parsed text (Err e) h = elim (cases_Bool (is_integer text && has_64_bits (signed_digits_value 10 text))) [
  | inl t ↦
      let both = and_parts (is_integer text) (has_64_bits (signed_digits_value 10 text)) t in
      absurd (h (is_integer-numeral text both.0, has_64_bits-fits (signed_digits_value 10 text) both.1))
  | inr f ↦ rw f refl
]

-- the steps of decimal digits, the last first
pub digits_onto_more : (k n : ℕ) (digits : List ℕ) → 10 ≤ n → digits_onto (suc k) 10 false n digits ≡ digits_onto k 10 false (n / 10) ((48 + n % 10) ∷ digits)
digits_onto_more k n digits more =
    let rest : (n / 10 == 0) ≡ false = ne_eqb (n / 10) 0 (λ e. absurd (omega arith)) in
    rw (rest, lt-ltb (n % 10) 10 (omega arith)) refl

pub digits_onto_last : (k n : ℕ) (digits : List ℕ) → n < 10 → digits_onto (suc k) 10 false n digits ≡ (48 + n) ∷ digits
digits_onto_last k n digits less =
    let none : n / 10 ≡ 0 = omega arith in
    let one : n % 10 ≡ n = omega arith in
    rw (none, one, lt-ltb n 10 less) refl
