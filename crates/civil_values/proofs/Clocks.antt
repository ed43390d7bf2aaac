-- The readers of times of day give what `IsClock` says, and what stands behind.
use Rattle.std.proofs.Common.{◌≡◌, sym, refl, ap, ℕ, suc, ◌+◌, ◌-◌, ◌*◌, ◌<◌, ◌≤◌, ◌≢◌, false, ◌&&◌, ◌==◌, if◌then◌else◌, nat_lt, nat_le, List, [], ◌∷◌, ◌++◌, length, slice_index, get_or, take, drop, Option, Some, None, arith, inl, inr}
use Rattle.std.specs.List.{All, prefix_len}
use Rattle.std.specs.Char.{is_ascii_digit}
use Rattle.std.proofs.lemmas.Bool.{cases_Bool, cases_lt, and_parts, and_from, le-leb, leb-true, lt-ltb, ltb-true, eqb-true, ne_eqb}
use Rattle.std.proofs.lemmas.List.{take-append-drop, get_or-take, get_or_past}
use Rattle.std.proofs.lemmas.List.Sums.{prefix_len_passes}
use Rattle.std.proofs.lemmas.List.Folds.{length-prefix_len}
use Rattle.std.proofs.Math.Seq.{take-append_seam, drop-append_seam}
use Rattle.civil_values.specs.Times.{two, kept, IsDigit, IsFraction, IsSeconds, IsClock}
use Rattle.civil_values.specs.TimeReader.{◌>>=◌, two_of, fraction_of, seconds_of, clock_of}
use Rattle.civil_values.proofs.Digits.{went, passed, some_same, two_of-two, digits_of_two, is_digit, digit_bounds}

-- a text begins with a part that P says is so many milliseconds
pub record Begins (P : List ℕ → ℕ → Type 0) (text : List ℕ) (ms : ℕ) (rest : List ℕ) : Type 0 where
  pub front : List ℕ
  pub is : text ≡ front ++ rest
  pub holds : P front ms

-- a text does not go on with a time of day
pub record Stops (text : List ℕ) : Type 0 where
  pub colon : slice_index text 0 ≢ 58
  pub point : slice_index text 0 ≢ 46
  pub digit : is_ascii_digit (slice_index text 0) ≡ false

read_parts : (p q : ℕ × List ℕ) → Some p ≡ Some q → (p.0 ≡ q.0) × (p.1 ≡ q.1)
read_parts p q e = let same = some_same p q e in (ap (λ (x : ℕ × List ℕ). x.0) same, ap (λ (x : ℕ × List ℕ). x.1) same)

-- digits, and no digit behind them
prefix_len-digits : (digits rest : List ℕ) → All IsDigit digits → is_ascii_digit (slice_index rest 0) ≡ false → prefix_len is_ascii_digit (digits ++ rest) ≡ length digits
prefix_len-digits [] [] all none = refl
prefix_len-digits [] (r ∷ rest) all none = rw none refl
prefix_len-digits (d ∷ digits) rest all none =
    let first = all 0 0 (omega arith) in
    let more = prefix_len-digits digits rest (λ k e less. all (suc k) e (omega arith)) none in
    rw (is_digit d first.0 first.1) (omega (arith, more))

pub all_digits : (text : List ℕ) → All IsDigit (take (prefix_len is_ascii_digit text) text)
all_digits text k e less =
    let inside : k < prefix_len is_ascii_digit text = omega (arith, length-prefix_len is_ascii_digit text) in
    rw (get_or-take (prefix_len is_ascii_digit text) text k e inside) (digit_bounds (get_or text k e) (prefix_len_passes is_ascii_digit text k e inside))

-- each digit is at most 9, and one that is not there 0
digit_or_zero : (digits : List ℕ) → All IsDigit digits → (i : ℕ) → get_or digits i 48 - 48 ≤ 9
digit_or_zero digits all i = elim (cases_lt i (length digits)) [
  | inl there ↦ let d = all i 48 there in omega arith
  | inr past ↦ rw (get_or_past digits i 48 past) (omega arith)
]

fraction_complete : (front rest : List ℕ) (ms : ℕ) → IsFraction front ms → Stops rest → fraction_of (front ++ rest) ≡ Some (ms, rest)
fraction_complete front rest ms (IsFraction.absent et em) s = rw (et, em, ne_eqb (slice_index rest 0) 46 s.point) refl
fraction_complete front rest ms (IsFraction.digits spelled all count et em) s =
    let n = prefix_len-digits spelled rest all s.digit in
    let tests = and_from (nat_le 1 (length spelled)) (nat_le (length spelled) 9) (le-leb 1 (length spelled) count.0) (le-leb (length spelled) 9 count.1) in
    rw (et, em, n, tests, take-append_seam spelled rest, drop-append_seam spelled rest) refl

fraction_sound : (text rest : List ℕ) (ms : ℕ) → fraction_of text ≡ Some (ms, rest) → Begins IsFraction text ms rest
fraction_sound [] rest ms e =
    let p = read_parts (0, []) (ms, rest) e in
    record { front = []; is = p.1; holds = IsFraction.absent refl (sym p.0) }
fraction_sound (b ∷ bs) rest ms e = elim (cases_Bool (b == 46)) [
  | inr other ↦
      let p = read_parts (0, b ∷ bs) (ms, rest) (rw other at e) in
      record { front = []; is = p.1; holds = IsFraction.absent refl (sym p.0) }
  | inl first ↦
      let n : ℕ = prefix_len is_ascii_digit bs in
      let p = passed (nat_le 1 n && nat_le n 9) (Some (kept (take n bs), drop n bs)) (ms, rest) (rw first at e) in
      let both = and_parts (nat_le 1 n) (nat_le n 9) p.0 in
      let q = read_parts (kept (take n bs), drop n bs) (ms, rest) p.1 in
      let size = length-prefix_len is_ascii_digit bs in
      let some : 1 ≤ length (take n bs) = rw size (leb-true 1 n both.0) in
      let few : length (take n bs) ≤ 9 = rw size (leb-true n 9 both.1) in
      record {
        front = 46 ∷ take n bs;
        is = rw (← q.1, take-append-drop n bs, eqb-true b 46 first) refl;
        holds = IsFraction.digits (take n bs) (all_digits bs) (some, few) refl (sym q.0);
      }
]

seconds_complete : (front rest : List ℕ) (ms : ℕ) → IsSeconds front ms → Stops rest → seconds_of (front ++ rest) ≡ Some (ms, rest)
seconds_complete front rest ms (IsSeconds.absent et em) s = rw (et, em, ne_eqb (slice_index rest 0) 58 s.colon) refl
seconds_complete front rest ms (IsSeconds.whole n part fraction small holds et em) s =
    rw (et, em, two_of-two n (omega arith), lt-ltb n 60 small, fraction_complete fraction rest part holds s) refl

no_digits : (high n : ℕ) → two_of high 0 ≡ Some n → ⊥
no_digits high n e = let d = digits_of_two high 0 n e in let s = d.second in absurd (omega arith)

-- what is read behind the colon of seconds
abbrev after_colon_of : List ℕ → Option (ℕ × List ℕ)
after_colon_of text =
    two_of (slice_index text 0) (slice_index text 1) >>= (λ s. if nat_lt s 60
    then fraction_of (drop 2 text) >>= (λ f. Some (s * 1000 + f.0, f.1))
    else None)

after_colon : (text rest : List ℕ) (ms : ℕ) → after_colon_of text ≡ Some (ms, rest) → Begins IsSeconds (58 ∷ text) ms rest
after_colon [] rest ms e = cc
after_colon (a ∷ []) rest ms e =
    let w = went (two_of a 0) (λ s. if nat_lt s 60 then fraction_of [] >>= (λ f. Some (s * 1000 + f.0, f.1)) else None) (ms, rest) e in
    absurd (no_digits a w.value w.was)
after_colon (a ∷ b ∷ text) rest ms e =
    let w = went (two_of a b) (λ s. if nat_lt s 60 then fraction_of text >>= (λ f. Some (s * 1000 + f.0, f.1)) else None) (ms, rest) e in
    let p = passed (nat_lt w.value 60) (fraction_of text >>= (λ f. Some (w.value * 1000 + f.0, f.1))) (ms, rest) w.gives in
    let f = went (fraction_of text) (λ f. Some (w.value * 1000 + f.0, f.1)) (ms, rest) p.1 in
    let q = read_parts (w.value * 1000 + f.value.0, f.value.1) (ms, rest) f.gives in
    let part = fraction_sound text f.value.1 f.value.0 f.was in
    let d = digits_of_two a b w.value w.was in
    let spelled : (a ∷ b ∷ text) ≡ two w.value ++ part.front ++ rest =
    let h = d.first in let l = d.second in let i = part.is in let r = q.1 in cc in
    record {
      front = (58 ∷ two w.value) ++ part.front;
      is = ap (λ (t : List ℕ). 58 ∷ t) spelled;
      holds = IsSeconds.whole w.value f.value.0 part.front (ltb-true w.value 60 p.0) part.holds refl (sym q.0);
    }

seconds_sound : (text rest : List ℕ) (ms : ℕ) → seconds_of text ≡ Some (ms, rest) → Begins IsSeconds text ms rest
seconds_sound [] rest ms e =
    let p = read_parts (0, []) (ms, rest) e in
    record { front = []; is = p.1; holds = IsSeconds.absent refl (sym p.0) }
seconds_sound (k ∷ text) rest ms e = elim (cases_Bool (k == 58)) [
  | inr other ↦
      let p = read_parts (0, k ∷ text) (ms, rest) (rw other at e) in
      record { front = []; is = p.1; holds = IsSeconds.absent refl (sym p.0) }
  | inl first ↦ rw (eqb-true k 58 first) (after_colon text rest ms (rw first at e))
]

pub clock_complete : (front rest : List ℕ) (ms : ℕ) → IsClock front ms → Stops rest → clock_of (front ++ rest) ≡ Some (ms, rest)
clock_complete front rest ms c s =
    let tests = and_from (nat_lt c.hour 24) (nat_lt c.minute 60) (lt-ltb c.hour 24 c.hour_in) (lt-ltb c.minute 60 c.minute_in) in
    let h = c.hour_in in
    let m = c.minute_in in
    rw (c.spelled, c.number, two_of-two c.hour (omega arith), two_of-two c.minute (omega arith), tests, seconds_complete c.seconds rest c.part c.seconds_are s) refl

pub clock_sound : (text rest : List ℕ) (ms : ℕ) → clock_of text ≡ Some (ms, rest) → Begins IsClock text ms rest
clock_sound [] rest ms e = cc
clock_sound (a ∷ []) rest ms e = cc
clock_sound (a ∷ b ∷ []) rest ms e = cc
clock_sound (a ∷ b ∷ k ∷ []) rest ms e =
    let p = passed (k == 58) (two_of a b >>= (λ h. None)) (ms, rest) e in
    let w = went (two_of a b) (λ h. None) (ms, rest) p.1 in
    let g = w.gives in cc
clock_sound (a ∷ b ∷ k ∷ c ∷ []) rest ms e =
    let p = passed (k == 58) (two_of a b >>= (λ h. two_of c 0 >>= (λ m. if nat_lt h 24 && nat_lt m 60 then seconds_of [] >>= (λ s. Some (h * 3_600_000 + m * 60_000 + s.0, s.1)) else None))) (ms, rest) e in
    let w = went (two_of a b) (λ h. two_of c 0 >>= (λ m. if nat_lt h 24 && nat_lt m 60 then seconds_of [] >>= (λ s. Some (h * 3_600_000 + m * 60_000 + s.0, s.1)) else None)) (ms, rest) p.1 in
    let v = went (two_of c 0) (λ m. if nat_lt w.value 24 && nat_lt m 60 then seconds_of [] >>= (λ s. Some (w.value * 3_600_000 + m * 60_000 + s.0, s.1)) else None) (ms, rest) w.gives in
    absurd (no_digits c v.value v.was)
clock_sound (a ∷ b ∷ k ∷ c ∷ d ∷ text) rest ms e =
    let p = passed (k == 58) (two_of a b >>= (λ h. two_of c d >>= (λ m. if nat_lt h 24 && nat_lt m 60 then seconds_of text >>= (λ s. Some (h * 3_600_000 + m * 60_000 + s.0, s.1)) else None))) (ms, rest) e in
    let w = went (two_of a b) (λ h. two_of c d >>= (λ m. if nat_lt h 24 && nat_lt m 60 then seconds_of text >>= (λ s. Some (h * 3_600_000 + m * 60_000 + s.0, s.1)) else None)) (ms, rest) p.1 in
    let v = went (two_of c d) (λ m. if nat_lt w.value 24 && nat_lt m 60 then seconds_of text >>= (λ s. Some (w.value * 3_600_000 + m * 60_000 + s.0, s.1)) else None) (ms, rest) w.gives in
    let t = passed (nat_lt w.value 24 && nat_lt v.value 60) (seconds_of text >>= (λ s. Some (w.value * 3_600_000 + v.value * 60_000 + s.0, s.1))) (ms, rest) v.gives in
    let both = and_parts (nat_lt w.value 24) (nat_lt v.value 60) t.0 in
    let s = went (seconds_of text) (λ s. Some (w.value * 3_600_000 + v.value * 60_000 + s.0, s.1)) (ms, rest) t.1 in
    let q = read_parts (w.value * 3_600_000 + v.value * 60_000 + s.value.0, s.value.1) (ms, rest) s.gives in
    let part = seconds_sound text s.value.1 s.value.0 s.was in
    let dh = digits_of_two a b w.value w.was in
    let dm = digits_of_two c d v.value v.was in
    let spelled : (a ∷ b ∷ k ∷ c ∷ d ∷ text) ≡ (two w.value ++ (58 ∷ two v.value) ++ part.front) ++ rest =
    let h1 = dh.first in let h2 = dh.second in let m1 = dm.first in let m2 = dm.second in
    let colon = eqb-true k 58 p.0 in let i = part.is in let r = q.1 in cc in
    record {
      front = two w.value ++ (58 ∷ two v.value) ++ part.front;
      is = spelled;
      holds = record {
        hour = w.value;
        minute = v.value;
        part = s.value.0;
        seconds = part.front;
        hour_in = ltb-true w.value 24 both.0;
        minute_in = ltb-true v.value 60 both.1;
        seconds_are = part.holds;
        spelled = refl;
        number = sym q.0;
      };
    }

-- a time of day is less than a day
fraction_small : (front : List ℕ) (ms : ℕ) → IsFraction front ms → ms < 1000
fraction_small front ms (IsFraction.absent et em) = omega arith
fraction_small front ms (IsFraction.digits spelled all count et em) =
    let at = digit_or_zero spelled all in
    omega (arith, at 0, at 1, at 2)

seconds_small : (front : List ℕ) (ms : ℕ) → IsSeconds front ms → ms < 60_000
seconds_small front ms (IsSeconds.absent et em) = omega arith
seconds_small front ms (IsSeconds.whole n part fraction small holds et em) = omega (arith, fraction_small fraction part holds)

pub clock_small : (front : List ℕ) (ms : ℕ) → IsClock front ms → ms < 86_400_000
clock_small front ms c =
    let h = c.hour_in in
    let m = c.minute_in in
    omega (arith, c.number, seconds_small c.seconds c.part c.seconds_are)
