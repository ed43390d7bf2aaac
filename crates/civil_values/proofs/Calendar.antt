-- Days of the calendar: their numbers, and the days beside them.
use Rattle.std.proofs.Common.{◌≡◌, ◌∙◌, sym, refl, ap, ℕ, ◌+◌, ◌-◌, ◌<◌, ◌≤◌, nat_lt, ℤ, pos, negsuc, neg_ℤ, ◌+ℤ◌, ◌*ℤ◌, ◌≤ℤ◌, ◌<ℤ◌, arith, inl, inr, ◌⊎◌}
use Rattle.std.proofs.lemmas.Bool.{cases_Bool, cases_lt, lt-ltb, le-ltb, ltb-true, ltb-false}
use Rattle.jiff_core.specs.Calendar.{days_from_civil, day_count, days_in_month, IsCivilDate, IsYear}
use Rattle.jiff_core.proofs.SignedLemmas.{signed_arith}
use Rattle.jiff_core.proofs.CalendarLemmas.{days_in_month_bounds, days_from_civil-day_count, day_count_bounds, day_count-day_of_year, day_count-later_year}
use Rattle.jiff_core.proofs.MarchLemmas.{day_count-early}
use Rattle.jiff_core.proofs.DateLemmas.{days_from_civil-day, days_from_civil-next_month, days_from_civil-next_year}
use Rattle.civil_values.specs.Times.{CivilDay, IsDayTo, day_number}
use Rattle.civil_values.specs.TimeReader.{day_before, day_after, at_milliseconds}

pub civil_date : (last : ℕ) (date : CivilDay) → last ≤ 9999 → IsDayTo last date → IsCivilDate (pos date.year) date.month date.day
civil_date last date most h =
    let y = h.year_in in
    let year : IsYear (pos date.year) = omega (arith, signed_arith) in
    (year, h.month_in, h.day_in)

first_count : day_count (pos 1) 1 1 ≡ 3_652_791
first_count = day_count-early (pos 1) 10_000 1 1 refl (omega arith) (omega arith) (omega arith)

-- 0001-01-01
pub first_number : days_from_civil (pos 1) 1 1 ≡ neg_ℤ (pos 719_162)
first_number = omega (arith, signed_arith, days_from_civil-day_count, first_count)

-- days from the year 1 on lie at or after it, and those up to the year 9999 before the year 10000
pub low_day : (last : ℕ) (date : CivilDay) → last ≤ 9999 → IsDayTo last date → neg_ℤ (pos 719_162) ≤ℤ day_number date
low_day last date most h =
    let y = h.year_in in
    let d = h.day_in in
    let place = day_count-day_of_year (pos date.year) date.month date.day d.0 in
    let year : 3_652_791 ≤ day_count (pos date.year) 1 1 = elim (cases_lt 1 date.year) [
      | inl later ↦ omega (arith, signed_arith, first_count, day_count-later_year (pos 1) (pos date.year) (omega (arith, signed_arith)) (omega (arith, signed_arith)))
      | inr first ↦ let one : date.year ≡ 1 = omega arith in rw (one, first_count) (omega arith)
    ] in
    omega (arith, signed_arith, days_from_civil-day_count)

pub high_day : (last : ℕ) (date : CivilDay) → last ≤ 9999 → IsDayTo last date → day_number date ≤ℤ pos 2_932_896
high_day last date most h =
    omega (arith, signed_arith, days_from_civil-day_count, day_count_bounds (pos date.year) date.month date.day (civil_date last date most h))

-- the day before
pub before_number : (last : ℕ) (date : CivilDay) → IsDayTo last date → day_number (day_before date) +ℤ pos 1 ≡ day_number date
before_number last date h = elim (cases_Bool (nat_lt 1 date.day)) [
  | inl day ↦
      let more = ltb-true 1 date.day day in
      let step = days_from_civil-day (pos date.year) date.month (date.day - 1) date.day (omega arith) (omega arith) in
      rw day (omega (arith, signed_arith))
  | inr first ↦
      let one : date.day ≡ 1 = let low = h.day_in.0 in let high = ltb-false 1 date.day first in omega arith in
      elim (cases_Bool (nat_lt 1 date.month)) [
        | inl month ↦
            let more = ltb-true 1 date.month month in
            let there : date.month - 1 + 1 ≡ date.month = omega arith in
            let step = rw there at (days_from_civil-next_month (pos date.year) (date.month - 1) (days_in_month (pos date.year) (date.month - 1)) (omega arith) refl) in
            rw (first, month, one) (sym step)
        | inr january ↦
            let jan : date.month ≡ 1 = let low = h.month_in.0 in let high = ltb-false 1 date.month january in omega arith in
            let some = h.year_in.0 in
            let step = days_from_civil-next_year (pos (date.year - 1)) (pos date.year) (omega (arith, signed_arith)) (omega (arith, signed_arith)) in
            rw (first, january, one, jan) (sym step)
      ]
]

-- the last day of the year 0
abbrev pub IsYearZero : CivilDay → Type 0
IsYearZero date = (date.year ≡ 0) × (day_number date ≡ neg_ℤ (pos 719_163))

-- the day before is in the calendar from the year 1 on, or that one
pub before_exists : (last : ℕ) (date : CivilDay) → IsDayTo last date → IsDayTo last (day_before date) ⊎ IsYearZero (day_before date)
before_exists last date h = elim (cases_Bool (nat_lt 1 date.day)) [
  | inl day ↦
      let more = ltb-true 1 date.day day in
      let d = h.day_in in
      rw day (inl (record { year_in = h.year_in; month_in = h.month_in; day_in = (omega arith, omega arith) }))
  | inr first ↦ elim (cases_Bool (nat_lt 1 date.month)) [
    | inl month ↦
        let more = ltb-true 1 date.month month in
        let m = h.month_in in
        let size = days_in_month_bounds (pos date.year) (date.month - 1) in
        rw (first, month) (inl (record { year_in = h.year_in; month_in = (omega arith, omega arith); day_in = (omega arith, omega arith) }))
    | inr january ↦ elim (cases_lt 1 date.year) [
      | inl later ↦
          let y = h.year_in in
          rw (first, january) (inl (record { year_in = (omega arith, omega arith); month_in = (omega arith, omega arith); day_in = (omega arith, omega arith) }))
      | inr one ↦
          let year : date.year ≡ 1 = let y = h.year_in in omega arith in
          let step = days_from_civil-next_year (pos 0) (pos 1) (omega (arith, signed_arith)) refl in
          rw (first, january, year) (inr (refl, omega (arith, signed_arith, first_number)))
    ]
  ]
]

-- the day after
pub after_number : (last : ℕ) (date : CivilDay) → IsDayTo last date → day_number (day_after date) ≡ day_number date +ℤ pos 1
after_number last date h = elim (cases_Bool (nat_lt date.day (days_in_month (pos date.year) date.month))) [
  | inl day ↦
      let d = h.day_in in
      let step = days_from_civil-day (pos date.year) date.month date.day (date.day + 1) (omega arith) (omega arith) in
      rw day (omega (arith, signed_arith))
  | inr last_day ↦
      let full : date.day ≡ days_in_month (pos date.year) date.month =
      let high = h.day_in.1 in let low = ltb-false date.day (days_in_month (pos date.year) date.month) last_day in omega arith in
      elim (cases_Bool (nat_lt date.month 12)) [
        | inl month ↦ rw (last_day, month) (days_from_civil-next_month (pos date.year) date.month date.day h.month_in.0 full)
        | inr december ↦
            let dec : date.month ≡ 12 = let high = h.month_in.1 in let low = ltb-false date.month 12 december in omega arith in
            let end : date.day ≡ 31 = full ∙ ap (days_in_month (pos date.year)) dec in
            rw (last_day, december, dec, end) (days_from_civil-next_year (pos date.year) (pos (date.year + 1)) (omega (arith, signed_arith)) (omega (arith, signed_arith)))
      ]
]

pub after_exists : (date : CivilDay) → IsDayTo 9998 date → IsDayTo 9999 (day_after date)
after_exists date h = elim (cases_Bool (nat_lt date.day (days_in_month (pos date.year) date.month))) [
  | inl day ↦
      let more = ltb-true date.day (days_in_month (pos date.year) date.month) day in
      let y = h.year_in in
      rw day (record { year_in = (omega arith, omega arith); month_in = h.month_in; day_in = (omega arith, omega arith) })
  | inr last_day ↦
      let y = h.year_in in
      elim (cases_Bool (nat_lt date.month 12)) [
        | inl month ↦
            let more = ltb-true date.month 12 month in
            let size = days_in_month_bounds (pos date.year) (date.month + 1) in
            rw (last_day, month) (record { year_in = (omega arith, omega arith); month_in = (omega arith, omega arith); day_in = (omega arith, omega arith) })
        | inr december ↦ rw (last_day, december) (record { year_in = (omega arith, omega arith); month_in = (omega arith, omega arith); day_in = (omega arith, omega arith) })
      ]
]

-- the day and time of day at so many milliseconds from a day's midnight
pub record IsAt (date : CivilDay) (total : ℤ) (at : CivilDay × ℕ) : Type 0 where
  pub within : at.1 < 86_400_000
  pub number : (day_number at.0 *ℤ pos 86_400_000) +ℤ pos at.1 ≡ (day_number date *ℤ pos 86_400_000) +ℤ total
  pub exists : IsDayTo 9999 at.0 ⊎ IsYearZero at.0

wider : (date : CivilDay) → IsDayTo 9998 date → IsDayTo 9999 date
wider date h = let y = h.year_in in record { year_in = (omega arith, omega arith); month_in = h.month_in; day_in = h.day_in }

wider_before : (date : CivilDay) → IsDayTo 9998 date ⊎ IsYearZero date → IsDayTo 9999 date ⊎ IsYearZero date
wider_before date (inl h) = inl (wider date h)
wider_before date (inr z) = inr z

pub at_milliseconds-is : (date : CivilDay) (total : ℤ) → IsDayTo 9998 date → neg_ℤ (pos 86_400_000) ≤ℤ total → total <ℤ pos 172_800_000 → IsAt date total (at_milliseconds date total)
at_milliseconds-is date (negsuc n) h low high =
    let small : n < 86_400_000 = omega (arith, signed_arith) in
    let step = before_number 9998 date h in
    record {
      within = omega arith;
      number = omega (arith, signed_arith);
      exists = wider_before (day_before date) (before_exists 9998 date h);
    }
at_milliseconds-is date (pos n) h low high = elim (cases_lt n 86_400_000) [
  | inl less ↦ rw (lt-ltb n 86_400_000 less) (record { within = less; number = refl; exists = inl (wider date h) })
  | inr more ↦
      let small : n < 172_800_000 = omega (arith, signed_arith) in
      let step = after_number 9998 date h in
      rw (le-ltb n 86_400_000 more) (record {
        within = omega arith;
        number = omega (arith, signed_arith);
        exists = inl (after_exists date h);
      })
]
