-- Steps of the reader, and numbers of two digits.
use Rattle.std.proofs.Common.{◌≡◌, refl, ap, ℕ, ◌+◌, ◌-◌, ◌*◌, ◌/◌, ◌%◌, ◌<◌, ◌≤◌, Bool, true, false, ◌&&◌, if◌then◌else◌, nat_le, [], ◌∷◌, Option, Some, None, arith}
use Rattle.std.proofs.lemmas.Bool.{and_parts, and_from, le-leb, leb-true}
use Rattle.std.specs.Char.{is_ascii_digit}
use Rattle.civil_values.specs.Times.{two}
use Rattle.civil_values.specs.TimeReader.{◌>>=◌, two_of}

-- a step that gives a value had one
pub record Went {A B : Type 0} (o : Option A) (f : A → Option B) (y : B) : Type 0 where
  pub value : A
  pub was : o ≡ Some value
  pub gives : f value ≡ Some y

pub went : {A B : Type 0} (o : Option A) (f : A → Option B) (y : B) → (o >>= f) ≡ Some y → Went o f y
went None f y e = cc
went (Some x) f y e = record { value = x; was = refl; gives = e }

-- a test that lets a value pass holds
pub passed : {A : Type 0} (b : Bool) (o : Option A) (y : A) → (if b then o else None) ≡ Some y → (b ≡ true) × (o ≡ Some y)
passed true o y e = (refl, e)
passed false o y e = cc

pub some_same : {A : Type 0} (x y : A) → Some x ≡ Some y → x ≡ y
some_same x y e = cc

pub is_digit : (b : ℕ) → 48 ≤ b → b ≤ 57 → is_ascii_digit b ≡ true
is_digit b low high = and_from (nat_le 48 b) (nat_le b 57) (le-leb 48 b low) (le-leb b 57 high)

pub digit_bounds : (b : ℕ) → is_ascii_digit b ≡ true → (48 ≤ b) × (b ≤ 57)
digit_bounds b e = let p = and_parts (nat_le 48 b) (nat_le b 57) e in (leb-true 48 b p.0, leb-true b 57 p.1)

pub two_of-two : (n : ℕ) → n < 100 → two_of (48 + n / 10) (48 + n % 10) ≡ Some n
two_of-two n small =
    let high = is_digit (48 + n / 10) (omega arith) (omega arith) in
    let low = is_digit (48 + n % 10) (omega arith) (omega arith) in
    let number : (48 + n / 10 - 48) * 10 + (48 + n % 10 - 48) ≡ n = omega arith in
    rw (high, low) (ap Some number)

-- two bytes are the digits of a number
pub record AreDigits (high low n : ℕ) : Type 0 where
  pub small : n < 100
  pub first : high ≡ 48 + n / 10
  pub second : low ≡ 48 + n % 10

pub digits_of_two : (high low n : ℕ) → two_of high low ≡ Some n → AreDigits high low n
digits_of_two high low n e =
    let p = passed (is_ascii_digit high && is_ascii_digit low) (Some ((high - 48) * 10 + (low - 48))) n e in
    let both = and_parts (is_ascii_digit high) (is_ascii_digit low) p.0 in
    let h = and_parts (nat_le 48 high) (nat_le high 57) both.0 in
    let l = and_parts (nat_le 48 low) (nat_le low 57) both.1 in
    let h0 : 48 ≤ high = leb-true 48 high h.0 in
    let h1 : high ≤ 57 = leb-true high 57 h.1 in
    let l0 : 48 ≤ low = leb-true 48 low l.0 in
    let l1 : low ≤ 57 = leb-true low 57 l.1 in
    let number : (high - 48) * 10 + (low - 48) ≡ n = some_same _ _ p.1 in
    record { small = omega arith; first = omega arith; second = omega arith }

pub is_two : (high low n : ℕ) → AreDigits high low n → (high ∷ low ∷ []) ≡ two n
is_two high low n h = let f = h.first in let s = h.second in cc
