-- What the definitions say of texts whose values are known.
use Rattle.std.proofs.Common.{◌≡◌, refl, ℕ, List, [], ◌∷◌, ◌++◌, None, Some, ℤ, pos, neg_ℤ}
use Rattle.std.specs.Prelude.{codes, replicate}
use Rattle.std.specs.Fmt.{digits}
use Rattle.std.specs.Str.{chars}
use Rattle.civil_values.specs.TimeReader.{time_canonical, offset_of, moment_of, day_before, day_after}
use Rattle.civil_values.specs.Numbers.{int_value, int_canonical}
use Rattle.civil_values.specs.Truth.{bool_canonical}
use Rattle.civil_values.specs.Texts.{text_canonical}

-- a time with an offset from UTC where it names none, and its canonical text
abbrev IsWritten : ℤ → List ℕ → List ℕ → Type 0
IsWritten given text canonical = time_canonical given text ≡ Some canonical

-- a text that is no time
abbrev IsNoTime : ℤ → List ℕ → Type 0
IsNoTime given text = time_canonical given text ≡ None

leap_day : IsWritten (pos 0) (codes "2024-02-29") (codes "2024-02-29T00:00:00.000+00:00")
unfolding moment_of
leap_day = refl

no_leap_day : IsNoTime (pos 0) (codes "2023-02-29")
unfolding moment_of
no_leap_day = refl

day_before_by_offset : IsWritten (pos 60) (codes "2024-03-11") (codes "2024-03-10T23:00:00.000+00:00")
unfolding moment_of
day_before_by_offset = refl

short_offset : IsWritten (pos 0) (codes "2024-03-10 12:00+0100") (codes "2024-03-10T11:00:00.000+00:00")
unfolding moment_of
short_offset = refl

fraction_cut_off : IsWritten (pos 0) (codes "2024-01-01T00:00:00.123999999Z") (codes "2024-01-01T00:00:00.123+00:00")
unfolding moment_of
fraction_cut_off = refl

no_second_60 : IsNoTime (pos 0) (codes "2024-01-01T23:59:60Z")
unfolding moment_of
no_second_60 = refl

into_year_9999 : IsWritten (pos 0) (codes "9998-12-31T23:30:00-01:00") (codes "9999-01-01T00:30:00.000+00:00")
unfolding moment_of
into_year_9999 = refl

no_year_9999 : IsNoTime (pos 0) (codes "9999-01-01")
unfolding moment_of
no_year_9999 = refl

before_year_1 : IsNoTime (pos 0) (codes "0001-01-01T00:00+01:00")
unfolding moment_of
before_year_1 = refl

first_of_year_1 : IsWritten (pos 0) (codes "0001-01-01T00:00") (codes "0001-01-01T00:00:00.000+00:00")
unfolding moment_of
first_of_year_1 = refl

-- an offset stands behind a time of day alone, and is at most 14 hours
no_offset_of_a_day : IsNoTime (pos 0) (codes "2024-01-01Z")
unfolding moment_of
no_offset_of_a_day = refl

no_offset_above_14 : (offset_of (codes "+14:01") ≡ None) × (offset_of (codes "+14:00") ≡ Some (pos 840))
no_offset_above_14 = (refl, refl)

no_minute_60 : offset_of (codes "-0160") ≡ None
no_minute_60 = refl

offsets : (offset_of (codes "-01") ≡ Some (neg_ℤ (pos 60))) × (offset_of (codes "z") ≡ Some (pos 0)) × (offset_of (codes "-00:30") ≡ Some (neg_ℤ (pos 30)))
offsets = (refl, refl, refl)

-- a fraction stands behind seconds alone
no_fraction_of_minutes : IsNoTime (pos 0) (codes "2024-01-01T00:00.5Z")
unfolding moment_of
no_fraction_of_minutes = refl

one_digit_filled : IsWritten (pos 0) (codes "2024-01-01t00:00:07.5") (codes "2024-01-01T00:00:07.500+00:00")
unfolding moment_of
one_digit_filled = refl

no_tenth_digit : IsNoTime (pos 0) (codes "2024-01-01T00:00:00.1234567890")
unfolding moment_of
no_tenth_digit = refl

no_hour_24 : IsNoTime (pos 0) (codes "2024-01-01T24:00")
unfolding moment_of
no_hour_24 = refl

no_space_around : IsNoTime (pos 0) (codes " 2024-01-01")
unfolding moment_of
no_space_around = refl

named_offset_wins : IsWritten (pos 60) (codes "2024-03-10 12:00z") (codes "2024-03-10T12:00:00.000+00:00")
unfolding moment_of
named_offset_wins = refl

-- the days around 1 March of a common year and of a century
around_march : (day_before (record { year = 2023; month = 3; day = 1 }) ≡ record { year = 2023; month = 2; day = 28 })
    × (day_after (record { year = 2000; month = 2; day = 28 }) ≡ record { year = 2000; month = 2; day = 29 })
    × (day_after (record { year = 1900; month = 2; day = 28 }) ≡ record { year = 1900; month = 3; day = 1 })
around_march = (refl, refl, refl)

-- whole numbers
minus_zero : int_canonical (codes "-0") ≡ Some (codes "0")
unfolding digits
minus_zero = refl

plus_and_zeros : int_canonical (codes "+007") ≡ Some (codes "7")
unfolding digits
plus_and_zeros = refl

thirty_zeros : int_canonical (replicate 30 48 ++ codes "5") ≡ Some (codes "5")
unfolding digits
thirty_zeros = refl

lowest : int_canonical (codes "-9223372036854775808") ≡ Some (codes "-9223372036854775808")
unfolding digits
lowest = refl

too_high : (int_value (codes "9223372036854775808") ≡ None) × (int_value (codes "9223372036854775807") ≡ Some (pos 9_223_372_036_854_775_807))
too_high = (refl, refl)

no_number : (int_value (codes "+") ≡ None) × (int_value [] ≡ None) × (int_value (codes "1.0") ≡ None) × (int_value (codes "+-1") ≡ None) × (int_value (codes " 1") ≡ None)
no_number = (refl, refl, refl, refl, refl)

-- truth values
truths : (bool_canonical (codes "T") ≡ Some (codes "true")) × (bool_canonical (codes "yEs") ≡ Some (codes "true")) × (bool_canonical (codes "1") ≡ Some (codes "true"))
    × (bool_canonical (codes "No") ≡ Some (codes "false")) × (bool_canonical (codes "F") ≡ Some (codes "false")) × (bool_canonical (codes "0") ≡ Some (codes "false"))
truths = (refl, refl, refl, refl, refl, refl)

no_truth : (bool_canonical (codes "y") ≡ None) × (bool_canonical [] ≡ None) × (bool_canonical (codes "true ") ≡ None)
no_truth = (refl, refl, refl)

-- texts
texts : (text_canonical [] ≡ None) × (text_canonical (codes "a b\n") ≡ Some (codes "a b\n")) × (text_canonical (7 ∷ []) ≡ None) × (text_canonical (127 ∷ []) ≡ Some (127 ∷ []))
unfolding chars
texts = (refl, refl, refl, refl)

-- U+FFFE is no character of XML 1.0, and U+FFFD is one
last_of_plane : (text_canonical (0xEF ∷ 0xBF ∷ 0xBE ∷ []) ≡ None) × (text_canonical (0xEF ∷ 0xBF ∷ 0xBD ∷ []) ≡ Some (0xEF ∷ 0xBF ∷ 0xBD ∷ []))
unfolding chars
last_of_plane = (refl, refl)
