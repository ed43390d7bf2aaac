-- The number that a word names, of documents or of an answer, is what `parse` reads, where no zero and no sign stands first.
use Rattle.std.proofs.Common.{◌≡◌, ◌≢◌, refl, sym, subst, ap, ◌∙◌, arith, ℕ, ◌<◌, ◌≤◌, ◌^◌, Bool, true, false, ◌&&◌, nat_le, nat_lt, List, length, get_or, Some, None, Result, Ok, Err, decimal}
use Rattle.std.specs.Str.{all_ascii_digits, bytes_eq}
use Rattle.std.specs.Str.Parse.{ParsesUnsigned}
use Rattle.std.proofs.lemmas.Bool.{and_from, and_parts, false_from_ne_true, le-leb, leb-true, lt-ltb, ltb-true}
use Rattle.std.proofs.lemmas.Fmt.{decimal-digits_value, decimal_nonempty, digits_decimal, digits_value-decimal, first_decimal}
use Rattle.std.proofs.lemmas.Slice.Eq.{bytes_eq-Decides}
use Rattle.std.proofs.lemmas.Str.Parse.{IsNumeralModel, digit_at, numerals_by_fold, parse_plain, tells_all_ascii_digits}
use Rattle.onprom_core.specs.Commands.{count_named, is_count, value_behind}

-- digits as a test, and the number that they write
own : IsNumeralModel (λ ds. all_ascii_digits ds ≡ true) (value_behind 0)
own = numerals_by_fold _ tells_all_ascii_digits value_behind (record { empty = λ n. refl; more = λ n c cs digit. refl })

-- a digit but 0 stands first
abbrev pub begins : List ℕ → Bool
begins text = nat_le 49 (get_or text 0 0) && nat_le (get_or text 0 0) 57

-- what such a text is
record IsCount (most : ℕ) (text : List ℕ) : Type 0 where
  written : decimal (value_behind 0 text) ≡ text
  some : 0 < value_behind 0 text
  few : value_behind 0 text ≤ most

module _ (most : ℕ) (low : most < 2 ^ 32) where
  count_back : (text : List ℕ) → is_count most text ≡ true → IsCount most text
  count_back text e =
      let v = value_behind 0 text in
      let both = and_parts (bytes_eq (decimal v) text && nat_lt 0 v) (nat_le v most) e in
      let front = and_parts (bytes_eq (decimal v) text) (nat_lt 0 v) both.0 in
      record { written = (bytes_eq-Decides (decimal v) text).0 front.0; some = ltb-true 0 v front.1; few = leb-true v most both.1 }

  count_from : (text : List ℕ) → IsCount most text → is_count most text ≡ true
  count_from text is =
      let v = value_behind 0 text in
      and_from (bytes_eq (decimal v) text && nat_lt 0 v) (nat_le v most)
      (and_from (bytes_eq (decimal v) text) (nat_lt 0 v) ((bytes_eq-Decides (decimal v) text).1 is.written) (lt-ltb 0 v is.some))
      (le-leb v most is.few)

  small : (text : List ℕ) → IsCount most text → value_behind 0 text < 2 ^ 32
  small text is = let few = is.few in omega arith

  digits_of : (text : List ℕ) → IsCount most text → all_ascii_digits text ≡ true
  digits_of text is = subst (λ t. all_ascii_digits t ≡ true) is.written (digits_decimal own (value_behind 0 text) (let f = small text is in omega arith))

  some_digit : (text : List ℕ) → IsCount most text → 0 < length text
  some_digit text is = subst (λ t. 0 < length t) is.written (decimal_nonempty (value_behind 0 text) (let f = small text is in omega arith))

  not_zero : (text : List ℕ) → IsCount most text → 48 < get_or text 0 0
  not_zero text is = subst (λ t. 48 < get_or t 0 0) is.written (first_decimal (value_behind 0 text) is.some (let f = small text is in omega arith))

  -- the decimal form of a number within names it
  pub named : (n : ℕ) → 1 ≤ n → n ≤ most → count_named most (decimal n) ≡ Some n
  named n some few =
      let value : value_behind 0 (decimal n) ≡ n = digits_value-decimal own n (omega arith) in
      rw (count_from (decimal n) (record { written = ap decimal value; some = omega arith; few = omega arith })) (ap Some value)

  pub uncounted : (text : List ℕ) → begins text ≡ false → count_named most text ≡ None
  uncounted text none = rw (false_from_ne_true (is_count most text) (λ e.
      let is = count_back text e in
      let low = not_zero text is in
      let digit = digit_at text 0 (own.to text (digits_of text is)) (some_digit text is) in
      let high : get_or text 0 0 ≤ 57 = omega arith in
      let both : begins text ≡ true = and_from (nat_le 49 (get_or text 0 0)) (nat_le (get_or text 0 0) 57) (le-leb 49 (get_or text 0 0) (omega arith)) (le-leb (get_or text 0 0) 57 high) in
      let other : false ≡ true = sym none ∙ both in cc)) refl

  module _ (text : List ℕ) (first : begins text ≡ true) where
    unsigned : get_or text 0 0 ≢ 43
    unsigned = λ e. let low = leb-true 49 (get_or text 0 0) (and_parts (nat_le 49 (get_or text 0 0)) (nat_le (get_or text 0 0) 57) first).0 in absurd (omega arith)

    -- the number that was read, where it is within
    pub counted : {E : Type 0} (r : Result ℕ E) (n : ℕ) → r ≡ Ok n → ParsesUnsigned 32 10 text r → 1 ≤ n → n ≤ most → count_named most text ≡ Some n
    counted r n ok h some few =
        let p = rw ok at (parse_plain own 32 text r h unsigned) in
        let v = value_behind 0 text in
        let value : v ≡ n = sym p.1 in
        let is : IsCount most text = record {
          written = decimal-digits_value own text p.0.0 p.0.1 (λ e. let low = leb-true 49 (get_or text 0 0) (and_parts (nat_le 49 (get_or text 0 0)) (nat_le (get_or text 0 0) 57) first).0 in absurd (omega arith)) (omega arith);
          some = omega arith;
          few = omega arith;
        } in
        rw (count_from text is) (ap Some value)

    -- a number that was read and is not within
    pub counted_past : {E : Type 0} (r : Result ℕ E) (n : ℕ) → r ≡ Ok n → ParsesUnsigned 32 10 text r → (1 ≤ n → n ≤ most → ⊥) → count_named most text ≡ None
    counted_past r n ok h past =
        let p = rw ok at (parse_plain own 32 text r h unsigned) in
        let value : value_behind 0 text ≡ n = sym p.1 in
        rw (false_from_ne_true (is_count most text) (λ e. let is = count_back text e in let some = is.some in let few = is.few in past (omega arith) (omega arith))) refl

    -- what was not read
    pub not_counted : {E : Type 0} (r : Result ℕ E) (fault : E) → r ≡ Err fault → ParsesUnsigned 32 10 text r → count_named most text ≡ None
    not_counted r fault err h =
        let p = rw err at (parse_plain own 32 text r h unsigned) in
        rw (false_from_ne_true (is_count most text) (λ e. let is = count_back text e in p (digits_of text is, some_digit text is, small text is))) refl
