-- The text of an instant by the day and the time of day that jiff gives.
use Rattle.std.proofs.Common.{◌≡◌, ◌∙◌, sym, refl, ap, subst, ℕ, ℤ, pos, negsuc, neg_ℤ, nat_abs, ◌≤ℤ◌, ◌<ℤ◌, arith, Fits, w32, T}
use Rattle.std.specs.Int.{IsInRange, int_div_euclid, int_rem_euclid}
use lib.Signed.{non_neg}
use Rattle.std.proofs.lemmas.Int.{by_lt_z}
use Rattle.jiff_core.specs.declared.civil.date.Date.{Date}
use Rattle.jiff_core.specs.Date.{epoch_day}
use Rattle.jiff_core.specs.Calendar.{days_from_civil, days_in_month}
use Rattle.jiff_core.proofs.SignedLemmas.{signed_arith}
use Rattle.jiff_core.proofs.CalendarLemmas.{days_from_civil-day_count, day_count-lt_year}
use Rattle.jiff_core.proofs.DateLemmas.{civil}
use Rattle.civil_values.specs.Times.{first_instant, end_instant, utc_text, IsTimeText}
use Rattle.civil_values.proofs.Calendar.{first_number}

-- a day at or after 0001-01-01 is one of a year from 1 on
pub year_from_number : (d : Date) → neg_ℤ (pos 719_162) ≤ℤ epoch_day d → pos 1 ≤ℤ d.year
year_from_number d low = by_lt_z d.year (pos 1)
    (λ early. absurd (omega (arith, signed_arith, days_from_civil-day_count, first_number, day_count-lt_year d.year d.month d.day (pos 1) 1 1 (civil d) (omega arith) early)))
    (λ late. late)

pub year_fits : (y : ℤ) → pos 1 ≤ℤ y → y ≤ℤ pos 9999 → T (non_neg y) × Fits w32 (nat_abs y)
year_fits (pos n) low high = (tt, omega (arith, signed_arith))
year_fits (negsuc n) low high = absurd (omega (arith, signed_arith))

pub year_is : (y : ℤ) → pos 1 ≤ℤ y → pos (nat_abs y) ≡ y
year_is (pos n) low = refl
year_is (negsuc n) low = absurd (omega (arith, signed_arith))

pub clock_is : (z : ℤ) → pos 0 ≤ℤ z → pos (nat_abs z) ≡ z
clock_is (pos n) low = refl
clock_is (negsuc n) low = absurd (omega (arith, signed_arith))

pub text_of : (at : ℤ) (d : Date) (year clock : ℕ) → first_instant ≤ℤ at → at <ℤ end_instant → epoch_day d ≡ int_div_euclid at (pos 86_400_000)
    → pos year ≡ d.year → pos clock ≡ int_rem_euclid at (pos 86_400_000) → IsTimeText at (utc_text (record { year = year; month = d.month; day = d.day }) clock)
text_of at d year clock first end day y c =
    let low : neg_ℤ (pos 719_162) ≤ℤ epoch_day d = rw day (omega (arith, signed_arith)) in
    let some = year_from_number d low in
    let most = d.year_in in
    let same : days_from_civil (pos year) d.month d.day ≡ int_div_euclid at (pos 86_400_000) = ap (λ (z : ℤ). days_from_civil z d.month d.day) y ∙ day in
    record {
      date = record { year = year; month = d.month; day = d.day };
      clock = clock;
      exists = record { year_in = (omega (arith, signed_arith), omega (arith, signed_arith)); month_in = d.month_in; day_in = subst (λ (z : ℤ). IsInRange 1 (days_in_month z d.month) d.day) (sym y) d.day_in };
      within = omega (arith, signed_arith);
      number = omega (arith, signed_arith);
      spelled = refl;
    }
