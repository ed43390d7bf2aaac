-- An instant has one text, and the reader's canonical text is it.
use Rattle.std.proofs.Common.{◌≡◌, ◌∙◌, sym, refl, ap, subst, ℕ, ◌<◌, ◌≤◌, nat_le, ℤ, pos, ◌-ℤ◌, ◌*ℤ◌, ◌≤ℤ◌, ◌<ℤ◌, List, Some, None, option_map, arith, inl, inr, ◌⊎◌}
use Rattle.std.proofs.lemmas.Bool.{cases_lt, le-leb, lt-leb, leb-true}
use Rattle.jiff_core.specs.declared.civil.date.Date.{Date}
use Rattle.jiff_core.specs.Calendar.{IsWithin}
use Rattle.jiff_core.proofs.SignedLemmas.{signed_arith}
use Rattle.jiff_core.proofs.DateLemmas.{epoch_day_injective}
use Rattle.civil_values.specs.Times.{CivilDay, IsDayTo, day_number, Moment, instant, first_instant, end_instant, IsSigned, IsOffset, IsAfterDay, IsMoment, IsTime, utc_text, IsTimeText, IsWritable}
use Rattle.civil_values.specs.TimeReader.{in_utc, moment_text, moment_of, time_canonical}
use Rattle.civil_values.proofs.Digits.{some_same, went, passed}
use Rattle.civil_values.proofs.Clocks.{clock_small}
use Rattle.civil_values.proofs.Calendar.{civil_date, low_day, high_day, IsAt, IsYearZero, at_milliseconds-is}
use Rattle.civil_values.proofs.Moments.{moment_sound, moment_complete, mapped, none_mapped}

-- the same day as jiff has it
unfoldable pub date_of : (last : ℕ) (date : CivilDay) → last ≤ 9999 → IsDayTo last date → Date
date_of last date most h =
    let c = civil_date last date most h in
    record { year = pos date.year; month = date.month; day = date.day; year_in = c.0; month_in = c.1; day_in = c.2 }

same_text : (a b : CivilDay) (c d : ℕ) → a.year ≡ b.year → a.month ≡ b.month → a.day ≡ b.day → c ≡ d → utc_text a c ≡ utc_text b d
same_text a b c d y m e k = rw (y, m, e, k) refl

pub one_text : (ms : ℤ) (a b : List ℕ) → IsTimeText ms a → IsTimeText ms b → a ≡ b
unfolding date_of
one_text ms a b h k =
    let hw = h.within in let kw = k.within in let hn = h.number in let kn = k.number in
    let days : day_number h.date ≡ day_number k.date = omega (arith, signed_arith) in
    let clocks : h.clock ≡ k.clock = omega (arith, signed_arith) in
    let parts = epoch_day_injective (date_of 9999 h.date (omega arith) h.exists) (date_of 9999 k.date (omega arith) k.exists) days in
    let years : h.date.year ≡ k.date.year = let y = parts.0 in cc in
    h.spelled ∙ same_text h.date k.date h.clock k.clock years parts.1 parts.2 clocks ∙ sym k.spelled

-- an instant that has a text is one of the years 0001 to 9999
pub text_range : (ms : ℤ) (text : List ℕ) → IsTimeText ms text → (first_instant ≤ℤ ms) × (ms <ℤ end_instant)
text_range ms text h =
    let low = low_day 9999 h.date (omega arith) h.exists in
    let high = high_day 9999 h.date (omega arith) h.exists in
    let w = h.within in let n = h.number in
    (omega (arith, signed_arith), omega (arith, signed_arith))

-- a moment is less than a day off UTC
signed_near : (sign n : ℕ) (z : ℤ) → IsSigned sign n z → n ≤ 840 → IsWithin 840 z
signed_near sign n z (IsSigned.plus es ez) most = (omega (arith, signed_arith), omega (arith, signed_arith))
signed_near sign n z (IsSigned.minus es ez) most = (omega (arith, signed_arith), omega (arith, signed_arith))

offset_near : (text : List ℕ) (z : ℤ) → IsOffset text z → IsWithin 840 z
offset_near text z (IsOffset.utc b w et ez) = (omega (arith, signed_arith), omega (arith, signed_arith))
offset_near text z (IsOffset.signed sign n span s most signed et) = signed_near sign n z signed most

-- the time of day and the offset of a moment
record IsNear (m : Moment) : Type 0 where
  clock : m.clock < 86_400_000
  ahead : IsWithin 840 m.ahead

after_near : (given : ℤ) (text : List ℕ) (m : Moment) → IsWithin 840 given → IsAfterDay given text m.clock m.ahead → IsNear m
after_near given text m g (IsAfterDay.midnight et ec ea) = record { clock = omega arith; ahead = rw ea g }
after_near given text m g (IsAfterDay.local mark time w c et ea) = record { clock = clock_small time m.clock c; ahead = rw ea g }
after_near given text m g (IsAfterDay.placed mark time offset w c o et) = record { clock = clock_small time m.clock c; ahead = offset_near offset m.ahead o }

utc_is : (given : ℤ) (text : List ℕ) (m : Moment) → IsWithin 840 given → IsMoment given text m → IsAt m.date (pos m.clock -ℤ (m.ahead *ℤ pos 60_000)) (in_utc m)
utc_is given text m g h =
    let near = after_near given h.rest m g h.rest_is in
    let c = near.clock in let a = near.ahead in
    at_milliseconds-is m.date (pos m.clock -ℤ (m.ahead *ℤ pos 60_000)) h.exists (omega (arith, signed_arith)) (omega (arith, signed_arith))

in_calendar : (date : CivilDay) → 1 ≤ date.year → IsDayTo 9999 date ⊎ IsYearZero date → IsDayTo 9999 date
in_calendar date some (inl h) = h
in_calendar date some (inr z) = let y = z.0 in absurd (omega arith)

-- the text of a moment that does not lie before the year 0001
utc_text-is : (m : Moment) (at : CivilDay × ℕ) → IsAt m.date (pos m.clock -ℤ (m.ahead *ℤ pos 60_000)) at → 1 ≤ at.0.year → IsTimeText (instant m) (utc_text at.0 at.1)
utc_text-is m at h some =
    let exists : IsDayTo 9999 at.0 = in_calendar at.0 some h.exists in
    let n = h.number in
    record { date = at.0; clock = at.1; exists = exists; within = h.within; number = omega (arith, signed_arith); spelled = refl }

-- a moment whose day in UTC lies in the year 0 is before the year 0001
year_zero : (m : Moment) (at : CivilDay × ℕ) → IsAt m.date (pos m.clock -ℤ (m.ahead *ℤ pos 60_000)) at → at.0.year ≡ 0 → first_instant ≤ℤ instant m → IsDayTo 9999 at.0 ⊎ IsYearZero at.0 → ⊥
year_zero m at h zero_year late (inl exists) = let y = exists.year_in in absurd (omega arith)
year_zero m at h zero_year late (inr z) = let n = h.number in let w = h.within in let d = z.1 in absurd (omega (arith, signed_arith))

too_early : (m : Moment) (at : CivilDay × ℕ) → IsAt m.date (pos m.clock -ℤ (m.ahead *ℤ pos 60_000)) at → at.0.year ≡ 0 → first_instant ≤ℤ instant m → ⊥
too_early m at h zero_year late = year_zero m at h zero_year late h.exists

pub canonical_some : (given : ℤ) (text : List ℕ) (m : Moment) (written : List ℕ) → IsWithin 840 given → IsMoment given text m → IsTimeText (instant m) written → moment_text m ≡ Some written
canonical_some given text m written g h w =
    let at = utc_is given text m g h in
    let some : 1 ≤ (in_utc m).0.year = elim (cases_lt 0 (in_utc m).0.year) [
      | inl later ↦ omega arith
      | inr zero_year ↦ absurd (too_early m (in_utc m) at (omega arith) (text_range (instant m) written w).0)
    ] in
    rw (le-leb 1 (in_utc m).0.year some) (ap Some (one_text (instant m) (utc_text (in_utc m).0 (in_utc m).1) written (utc_text-is m (in_utc m) at some) w))

pub canonical_none : (given : ℤ) (text : List ℕ) (m : Moment) → IsWithin 840 given → IsMoment given text m → instant m <ℤ first_instant → moment_text m ≡ None
canonical_none given text m g h early =
    let at = utc_is given text m g h in
    elim (cases_lt 0 (in_utc m).0.year) [
      | inl later ↦
          let range = text_range (instant m) (utc_text (in_utc m).0 (in_utc m).1) (utc_text-is m (in_utc m) at (omega arith)) in
          absurd (omega (arith, signed_arith, range.0))
      | inr zero_year ↦ rw (lt-leb 1 (in_utc m).0.year (omega arith)) refl
    ]

-- a time is an instant of the years 0001 to 9999
pub time_range : (given : ℤ) (text : List ℕ) (ms : ℤ) → IsWithin 840 given → IsTime given text ms → IsWritable ms
time_range given text ms g t =
    let m : Moment = t.moment in
    let at = utc_is given text m g t.spells in
    let late : first_instant ≤ℤ instant m = rw (← t.number) t.late in
    let some : 1 ≤ (in_utc m).0.year = elim (cases_lt 0 (in_utc m).0.year) [
      | inl later ↦ omega arith
      | inr zero_year ↦ absurd (too_early m (in_utc m) at (omega arith) late)
    ] in
    rw t.number (text_range (instant m) (utc_text (in_utc m).0 (in_utc m).1) (utc_text-is m (in_utc m) at some))

moment_text-is : (given : ℤ) (text : List ℕ) (m : Moment) (written : List ℕ) → IsWithin 840 given → IsMoment given text m → moment_text m ≡ Some written → IsTimeText (instant m) written
moment_text-is given text m written g spells e =
    let at = utc_is given text m g spells in
    let p = passed (nat_le 1 (in_utc m).0.year) (Some (utc_text (in_utc m).0 (in_utc m).1)) written e in
    let same = some_same (utc_text (in_utc m).0 (in_utc m).1) written p.1 in
    subst (λ (t : List ℕ). IsTimeText (instant m) t) same (utc_text-is m (in_utc m) at (leb-true 1 (in_utc m).0.year p.0))

-- the canonical text of a text is that of its instant
pub canonical_is : (given : ℤ) (text written : List ℕ) → IsWithin 840 given → time_canonical given text ≡ Some written → (ms : ℤ) × IsTime given text ms × IsTimeText ms written
canonical_is given text written g e =
    let w = went (moment_of given text) moment_text written e in
    let spells = moment_sound given text w.value w.was in
    let is = moment_text-is given text w.value written g spells w.gives in
    (instant w.value, record { moment = w.value; spells = spells; number = refl; late = (text_range (instant w.value) written is).0 }, is)

pub canonical_from : (given : ℤ) (text written : List ℕ) (ms : ℤ) → IsWithin 840 given → IsTime given text ms → IsTimeText ms written → time_canonical given text ≡ Some written
canonical_from given text written ms g t is =
    let w : IsTimeText (instant t.moment) written = rw (← t.number) is in
    rw (moment_complete given text t.moment t.spells) (canonical_some given text t.moment written g t.spells w)

-- what the reader gives, where it gives a moment or none
pub time_none : (given : ℤ) (text : List ℕ) → None ≡ option_map instant (moment_of given text) → (ms : ℤ) → IsTime given text ms → ⊥
time_none given text e ms t =
    let none = none_mapped instant (moment_of given text) e in
    let some = moment_complete given text t.moment t.spells in cc

pub time_early : (given : ℤ) (text : List ℕ) (at : ℤ) → Some at ≡ option_map instant (moment_of given text) → at <ℤ first_instant → (ms : ℤ) → IsTime given text ms → ⊥
time_early given text at e early ms t =
    let some = moment_complete given text t.moment t.spells in
    let same : at ≡ ms = some_same at ms (e ∙ ap (option_map instant) some ∙ ap Some (sym t.number)) in
    let late = t.late in
    absurd (omega (arith, signed_arith))

pub time_found : (given : ℤ) (text : List ℕ) (at : ℤ) → Some at ≡ option_map instant (moment_of given text) → first_instant ≤ℤ at → IsTime given text at
time_found given text at e late =
    let m = mapped instant (moment_of given text) at e in
    record { moment = m.value; spells = moment_sound given text m.value m.was; number = sym m.gives; late = late }

pub no_canonical : (given : ℤ) (text : List ℕ) → None ≡ option_map instant (moment_of given text) → time_canonical given text ≡ None
no_canonical given text e = rw (none_mapped instant (moment_of given text) e) refl

pub canonical_early : (given : ℤ) (text : List ℕ) (at : ℤ) → IsWithin 840 given → Some at ≡ option_map instant (moment_of given text) → at <ℤ first_instant → time_canonical given text ≡ None
canonical_early given text at g e early =
    let m = mapped instant (moment_of given text) at e in
    let before : instant m.value <ℤ first_instant = rw m.gives early in
    rw m.was (canonical_none given text m.value g (moment_sound given text m.value m.was) before)

pub canonical_found : (given : ℤ) (text : List ℕ) (at : ℤ) → IsWithin 840 given → Some at ≡ option_map instant (moment_of given text) → (written : List ℕ) → IsTimeText at written → time_canonical given text ≡ Some written
canonical_found given text at g e written w =
    let m = mapped instant (moment_of given text) at e in
    let is : IsTimeText (instant m.value) written = rw m.gives w in
    rw m.was (canonical_some given text m.value written g (moment_sound given text m.value m.was) is)
