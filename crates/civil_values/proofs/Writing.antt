-- Decimal digits that are written from the last to the first.
use Rattle.std.proofs.Common.{◌≡◌, ◌∙◌, sym, refl, ap, ℕ, suc, ◌+◌, ◌-◌, ◌*◌, ◌/◌, ◌%◌, ◌<◌, ◌≤◌, ◌^◌, false, List, [], ◌∷◌, length, drop, take, ◌++◌, set, ℤ, pos, negsuc, nat_abs, ◌<ℤ◌, arith, inl, inr, add-one}
use Rattle.std.specs.Fmt.{decimal, digits, digits_onto}
use Rattle.std.proofs.Math.Nat.{pow-suc}
use Rattle.std.proofs.lemmas.List.{drop-set, drop_all}
use Rattle.std.proofs.Math.ListN.{length-set}
use Rattle.std.proofs.Math.Seq.{take-append_seam}
use Rattle.jiff_core.proofs.SignedLemmas.{signed_arith}
use Rattle.civil_values.specs.Numbers.{int_text}
use Rattle.std.proofs.lemmas.Bool.{cases_lt}
use Rattle.civil_values.proofs.Numerals.{digits_onto_more, digits_onto_last}

-- at most so many last digits of n, followed by others
unfoldable pub digits_before : ℕ → ℕ → List ℕ → List ℕ
digits_before turns n digits = digits_onto turns 10 false n digits

-- the digits of n behind `at` are written, and rest has those before
pub record IsWriting (n at rest : ℕ) (digits : List ℕ) : Type 0 where
  pub size : length digits ≡ 20
  pub inside : at < 20
  pub bound : rest < 10 ^ (at + 1)
  pub small : n < 10 ^ 19 → rest < 10 ^ at
  pub begun : at < 19 → 1 ≤ rest
  pub text : digits_before (45 + at) rest (drop (at + 1) digits) ≡ decimal n

begins : (n : ℕ) → digits_before 64 n [] ≡ decimal n
unfolding digits_before digits
begins n = refl

pub writing_begins : (n : ℕ) (digits : List ℕ) → length digits ≡ 20 → n < 2 ^ 64 → IsWriting n 19 n digits
writing_begins n digits size small = record {
  size = size;
  inside = omega arith;
  bound = omega arith;
  small = λ h. h;
  begun = λ h. absurd (omega arith);
  text = ap (digits_before 64 n) (drop_all 20 digits (omega arith)) ∙ begins n;
}

digits_before_more : (k n : ℕ) (digits : List ℕ) → 10 ≤ n → digits_before (suc k) n digits ≡ digits_before k (n / 10) ((48 + n % 10) ∷ digits)
unfolding digits_before
digits_before_more k n digits more = digits_onto_more k n digits more

digits_before_last : (k n : ℕ) (digits : List ℕ) → n < 10 → digits_before (suc k) n digits ≡ (48 + n) ∷ digits
unfolding digits_before
digits_before_last k n digits less = digits_onto_last k n digits less

ten_times : (at : ℕ) → 10 ^ (at + 1) ≡ 10 ^ at * 10
ten_times at = rw add-one (pow-suc 10 at)

pub writing_goes_on : (n at rest : ℕ) (digits : List ℕ) → IsWriting n at rest digits → 10 ≤ rest → IsWriting n (at - 1) (rest / 10) (set digits at (48 + rest % 10))
writing_goes_on n at rest digits h more =
    let size = h.size in
    let i = h.inside in
    let b = h.bound in
    let power = ten_times at in
    let some : 1 ≤ at = elim (cases_lt 0 at) [
      | inl later ↦ omega arith
      | inr none ↦ let z : at ≡ 0 = omega arith in absurd (let c : rest < 10 ^ (0 + 1) = rw z at b in omega arith)
    ] in
    let back : at - 1 + 1 ≡ at = omega arith in
    let lower = ten_times (at - 1) in
    let turns : 45 + at ≡ suc (45 + (at - 1)) = omega arith in
    record {
      size = length-set digits at (48 + rest % 10) ∙ size;
      inside = omega arith;
      bound = rw back (omega arith);
      small = λ few. let s = h.small few in let p : 10 ^ at ≡ 10 ^ (at - 1) * 10 = rw back at lower in omega arith;
      begun = λ less. omega arith;
      text =
          rw (back, drop-set digits at (48 + rest % 10) (omega arith))
          (sym (digits_before_more (45 + (at - 1)) rest (drop (at + 1) digits) more) ∙ ap (λ k. digits_before k rest (drop (at + 1) digits)) (sym turns) ∙ h.text);
    }

pub writing_ends : (n at rest : ℕ) (digits : List ℕ) → IsWriting n at rest digits → rest < 10 → drop at (set digits at (48 + rest)) ≡ decimal n
writing_ends n at rest digits h less =
    let size = h.size in
    let i = h.inside in
    let turns : 45 + at ≡ suc (44 + at) = omega arith in
    drop-set digits at (48 + rest) (omega arith) ∙ sym (digits_before_last (44 + at) rest (drop (at + 1) digits) less)
    ∙ ap (λ k. digits_before k rest (drop (at + 1) digits)) (sym turns) ∙ h.text

-- a minus sign before the digits
pub minus_written : (buf ys post text : List ℕ) (len : ℕ) → 0 < length buf → ys ≡ text → length ys ≡ len → take (len + 1) (take 1 (set buf 0 45) ++ (ys ++ post)) ≡ 45 ∷ text
minus_written [] ys post text len some is size = absurd (omega arith)
minus_written (b ∷ buf) ys post text len some is size = rw (add-one, ← size, take-append_seam ys post, is) refl

pub int_text-negative : (n : ℤ) → n <ℤ pos 0 → int_text n ≡ 45 ∷ decimal (nat_abs n)
int_text-negative (pos n) less = absurd (omega (arith, signed_arith))
int_text-negative (negsuc n) less = refl
