-- The reader of offsets gives what `IsOffset` says.
use Rattle.std.proofs.Common.{◌≡◌, sym, refl, ℕ, ◌+◌, ◌*◌, ◌<◌, ◌≤◌, false, ◌&&◌, ◌||◌, ◌==◌, if◌then◌else◌, nat_lt, nat_le, ℤ, pos, neg_ℤ, List, [], ◌∷◌, ◌++◌, length, Option, Some, None, IfSome, arith, inl, inr}
use Rattle.std.proofs.lemmas.Bool.{cases_Bool, and_parts, and_from, or_cases, le-leb, leb-true, lt-ltb, ltb-true, eqb-true}
use Rattle.std.proofs.lemmas.Bool.Decides.{nat_tests}
use Rattle.civil_values.specs.Times.{two, IsSigned, IsSpan, IsOffset}
use Rattle.civil_values.specs.TimeReader.{◌>>=◌, two_of, signed_of, span_of, offset_of}
use Rattle.civil_values.proofs.Digits.{went, passed, some_same, two_of-two, digits_of_two, is_two}

signed_of-sound : (sign n : ℕ) (z : ℤ) → signed_of sign n ≡ Some z → IsSigned sign n z
signed_of-sound sign n z e = elim (cases_Bool (sign == 43)) [
  | inl plus ↦ IsSigned.plus (eqb-true sign 43 plus) (sym (some_same _ _ (rw plus at e)))
  | inr other ↦
      let rest : (if sign == 45 then Some (neg_ℤ (pos n)) else None) ≡ Some z = rw other at e in
      let p = passed (sign == 45) (Some (neg_ℤ (pos n))) z rest in
      IsSigned.minus (eqb-true sign 45 p.0) (sym (some_same _ _ p.1))
]

signed_of-complete : (sign n : ℕ) (z : ℤ) → IsSigned sign n z → signed_of sign n ≡ Some z
signed_of-complete sign n z (IsSigned.plus es ez) = rw (es, ez) refl
signed_of-complete sign n z (IsSigned.minus es ez) = rw (es, ez) refl

-- what a sign, hours and minutes have to be
record Spans (sign h m : ℕ) (z : ℤ) : Type 0 where
  minutes : m < 60
  most : h * 60 + m ≤ 840
  signed : IsSigned sign (h * 60 + m) z

span_of-sound : (sign h m : ℕ) (z : ℤ) → span_of sign h m ≡ Some z → Spans sign h m z
span_of-sound sign h m z e =
    let p = passed (nat_lt m 60 && nat_le (h * 60 + m) 840) (signed_of sign (h * 60 + m)) z e in
    let both = and_parts (nat_lt m 60) (nat_le (h * 60 + m) 840) p.0 in
    record { minutes = ltb-true m 60 both.0; most = leb-true (h * 60 + m) 840 both.1; signed = signed_of-sound sign (h * 60 + m) z p.1 }

span_of-complete : (sign h m n : ℕ) (z : ℤ) → m < 60 → n ≡ h * 60 + m → n ≤ 840 → IsSigned sign n z → span_of sign h m ≡ Some z
span_of-complete sign h m n z minutes is most signed =
    let tests = and_from (nat_lt m 60) (nat_le (h * 60 + m) 840) (lt-ltb m 60 minutes) (le-leb (h * 60 + m) 840 (omega arith)) in
    rw tests (rw is at (signed_of-complete sign n z signed))

long : (n : ℕ) → 6 < n → (n == 1 ≡ false) × (n == 3 ≡ false) × (n == 5 ≡ false) × (n == 6 ≡ false)
long n big = (grind (arith, nat_tests), grind (arith, nat_tests), grind (arith, nat_tests), grind (arith, nat_tests))

pub offset_of-sound : (text : List ℕ) (z : ℤ) → offset_of text ≡ Some z → IsOffset text z
offset_of-sound [] z e = cc
offset_of-sound (b ∷ []) z e =
    let p = passed ((b == 90) || (b == 122)) (Some (pos 0)) z e in
    elim (or_cases (b == 90) (b == 122) p.0) [
      | inl upper ↦ IsOffset.utc b (inl (eqb-true b 90 upper)) refl (sym (some_same _ _ p.1))
      | inr lower ↦ IsOffset.utc b (inr (eqb-true b 122 lower)) refl (sym (some_same _ _ p.1))
    ]
offset_of-sound (s ∷ a ∷ []) z e = cc
offset_of-sound (s ∷ a ∷ b ∷ []) z e =
    let w = went (two_of a b) (λ h. span_of s h 0) z e in
    let d = digits_of_two a b w.value w.was in
    let sp = span_of-sound s w.value 0 z w.gives in
    IsOffset.signed s (w.value * 60 + 0) (a ∷ b ∷ []) (IsSpan.hours w.value d.small (is_two a b w.value d) (omega arith)) sp.most sp.signed refl
offset_of-sound (s ∷ a ∷ b ∷ c ∷ []) z e = cc
offset_of-sound (s ∷ a ∷ b ∷ c ∷ d ∷ []) z e =
    let w = went (two_of a b) (λ h. two_of c d >>= (λ m. span_of s h m)) z e in
    let v = went (two_of c d) (λ m. span_of s w.value m) z w.gives in
    let dh = digits_of_two a b w.value w.was in
    let dm = digits_of_two c d v.value v.was in
    let sp = span_of-sound s w.value v.value z v.gives in
    let spelled : (a ∷ b ∷ c ∷ d ∷ []) ≡ two w.value ++ two v.value =
    let h = is_two a b w.value dh in let m = is_two c d v.value dm in cc in
    IsOffset.signed s (w.value * 60 + v.value) (a ∷ b ∷ c ∷ d ∷ []) (IsSpan.plain w.value v.value dh.small sp.minutes spelled refl) sp.most sp.signed refl
offset_of-sound (s ∷ a ∷ b ∷ k ∷ c ∷ d ∷ []) z e =
    let p = passed (k == 58) (two_of a b >>= (λ h. two_of c d >>= (λ m. span_of s h m))) z e in
    let w = went (two_of a b) (λ h. two_of c d >>= (λ m. span_of s h m)) z p.1 in
    let v = went (two_of c d) (λ m. span_of s w.value m) z w.gives in
    let dh = digits_of_two a b w.value w.was in
    let dm = digits_of_two c d v.value v.was in
    let sp = span_of-sound s w.value v.value z v.gives in
    let spelled : (a ∷ b ∷ k ∷ c ∷ d ∷ []) ≡ two w.value ++ (58 ∷ two v.value) =
    let h = is_two a b w.value dh in let m = is_two c d v.value dm in let colon = eqb-true k 58 p.0 in cc in
    IsOffset.signed s (w.value * 60 + v.value) (a ∷ b ∷ k ∷ c ∷ d ∷ []) (IsSpan.parted w.value v.value dh.small sp.minutes spelled refl) sp.most sp.signed refl
offset_of-sound (s ∷ a ∷ b ∷ c ∷ d ∷ f ∷ g ∷ rest) z e =
    let l = long (length (s ∷ a ∷ b ∷ c ∷ d ∷ f ∷ g ∷ rest)) (omega arith) in
    let none = rw (l.0, l.1, l.2, l.3) at e in cc

pub offset_of-complete : (text : List ℕ) (z : ℤ) → IsOffset text z → offset_of text ≡ Some z
offset_of-complete text z (IsOffset.utc b (inl upper) et ez) = rw (et, ez, upper) refl
offset_of-complete text z (IsOffset.utc b (inr lower) et ez) = rw (et, ez, lower) refl
offset_of-complete text z (IsOffset.signed sign n span (IsSpan.hours h small es en) most signed et) =
    rw (et, es, two_of-two h small) (span_of-complete sign h 0 n z (omega arith) (omega arith) most signed)
offset_of-complete text z (IsOffset.signed sign n span (IsSpan.plain h m small minutes es en) most signed et) =
    rw (et, es, two_of-two h small, two_of-two m (omega arith)) (span_of-complete sign h m n z minutes en most signed)
offset_of-complete text z (IsOffset.signed sign n span (IsSpan.parted h m small minutes es en) most signed et) =
    rw (et, es, two_of-two h small, two_of-two m (omega arith)) (span_of-complete sign h m n z minutes en most signed)

pub some_sound : (text : List ℕ) (o : Option ℤ) → o ≡ offset_of text → IfSome o (IsOffset text)
some_sound text None e = tt
some_sound text (Some z) e = offset_of-sound text z (sym e)
