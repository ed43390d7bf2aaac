-- What a text says as a time, computed: its moment, and the canonical text of its instant, which is got by a step to the day before
-- or after. That these are what `IsMoment`, `IsTime` and `IsTimeText` say is a law.
use Rattle.std.specs.Prelude.{ℕ, suc, ◌+◌, ◌-◌, ◌*◌, Bool, ◌&&◌, ◌||◌, ◌==◌, nat_lt, nat_le, if◌then◌else◌, ℤ, pos, negsuc, neg_ℤ, ◌-ℤ◌, ◌*ℤ◌, List, length, slice_index, take, drop, Option, Some, None}
use Rattle.std.specs.List.{prefix_len}
use Rattle.std.specs.Char.{is_ascii_digit}
use Rattle.jiff_core.specs.Calendar.{days_in_month}
use Rattle.civil_values.specs.Times.{CivilDay, Moment, kept, utc_text}

infixl 10 ◌>>=◌
-- go on with what was read
abbrev pub ◌>>=◌ : {A B : Type 0} → Option A → (A → Option B) → Option B
None >>= f = None
(Some x) >>= f = f x

-- the number that two bytes spell
abbrev pub two_of : ℕ → ℕ → Option ℕ
two_of high low = if is_ascii_digit high && is_ascii_digit low then Some ((high - 48) * 10 + (low - 48)) else None

-- the calendar has this day, in the years from 1 to `last`
abbrev pub is_day_to : ℕ → CivilDay → Bool
is_day_to last date =
    nat_le 1 date.year && nat_le date.year last && nat_le 1 date.month && nat_le date.month 12
    && nat_le 1 date.day && nat_le date.day (days_in_month (pos date.year) date.month)

-- the day, if it is one of the years 0001 to 9998
abbrev pub read_date : CivilDay → Option CivilDay
read_date date = if is_day_to 9998 date then Some date else None

-- the day that ten bytes spell
abbrev pub day_of : List ℕ → Option CivilDay
day_of text =
    if (length text == 10) && (slice_index text 4 == 45) && (slice_index text 7 == 45)
    then two_of (slice_index text 0) (slice_index text 1) >>= (λ century. two_of (slice_index text 2) (slice_index text 3) >>= (λ year.
    two_of (slice_index text 5) (slice_index text 6) >>= (λ month. two_of (slice_index text 8) (slice_index text 9) >>= (λ day.
    read_date (record { year = century * 100 + year; month = month; day = day })))))
    else None

-- the milliseconds of a fraction, and the text behind it
abbrev pub fraction_of : List ℕ → Option (ℕ × List ℕ)
fraction_of text =
    if slice_index text 0 == 46
    then (let digits = prefix_len is_ascii_digit (drop 1 text) in
    if nat_le 1 digits && nat_le digits 9 then Some (kept (take digits (drop 1 text)), drop digits (drop 1 text)) else None)
    else Some (0, text)

-- the milliseconds of seconds, and the text behind them
abbrev pub seconds_of : List ℕ → Option (ℕ × List ℕ)
seconds_of text =
    if slice_index text 0 == 58
    then two_of (slice_index text 1) (slice_index text 2) >>= (λ s. if nat_lt s 60
    then fraction_of (drop 3 text) >>= (λ f. Some (s * 1000 + f.0, f.1))
    else None)
    else Some (0, text)

-- the milliseconds of a time of day, and the text behind it
abbrev pub clock_of : List ℕ → Option (ℕ × List ℕ)
clock_of text =
    if slice_index text 2 == 58
    then two_of (slice_index text 0) (slice_index text 1) >>= (λ h. two_of (slice_index text 3) (slice_index text 4) >>= (λ m.
    if nat_lt h 24 && nat_lt m 60
    then seconds_of (drop 5 text) >>= (λ s. Some (h * 3_600_000 + m * 60_000 + s.0, s.1))
    else None))
    else None

-- minutes with this sign
abbrev pub signed_of : ℕ → ℕ → Option ℤ
signed_of sign n = if sign == 43 then Some (pos n) else (if sign == 45 then Some (neg_ℤ (pos n)) else None)

-- a sign, hours and minutes, at most 14 hours in all
abbrev pub span_of : ℕ → ℕ → ℕ → Option ℤ
span_of sign h m = if nat_lt m 60 && nat_le (h * 60 + m) 840 then signed_of sign (h * 60 + m) else None

-- the minutes ahead of UTC that a text spells
abbrev pub offset_of : List ℕ → Option ℤ
offset_of text =
    if length text == 1 then (if (slice_index text 0 == 90) || (slice_index text 0 == 122) then Some (pos 0) else None)
    else (if length text == 3 then two_of (slice_index text 1) (slice_index text 2) >>= (λ h. span_of (slice_index text 0) h 0)
    else (if length text == 5 then two_of (slice_index text 1) (slice_index text 2) >>= (λ h. two_of (slice_index text 3) (slice_index text 4) >>= (λ m. span_of (slice_index text 0) h m))
    else (if (length text == 6) && (slice_index text 3 == 58) then two_of (slice_index text 1) (slice_index text 2) >>= (λ h. two_of (slice_index text 4) (slice_index text 5) >>= (λ m. span_of (slice_index text 0) h m))
    else None)))

-- the offset that stands behind a time of day, or the given one
abbrev pub zone_of : ℤ → List ℕ → Option ℤ
zone_of given text = if length text == 0 then Some given else offset_of text

abbrev pub is_mark : ℕ → Bool
is_mark b = (b == 84) || (b == 116) || (b == 32)

-- a time of day, and the offset behind it
abbrev pub placed_of : ℤ → List ℕ → Option (ℕ × ℤ)
placed_of given text = clock_of text >>= (λ clock. zone_of given clock.1 >>= (λ ahead. Some (clock.0, ahead)))

-- the time of day and the offset that stand behind a day
abbrev pub after_day : ℤ → List ℕ → Option (ℕ × ℤ)
after_day given text =
    if length text == 0 then Some (0, given)
    else (if is_mark (slice_index text 0) then placed_of given (drop 1 text) else None)

-- the moment that a text spells
unfoldable pub moment_of : ℤ → List ℕ → Option Moment
moment_of given text =
    day_of (take 10 text) >>= (λ date. after_day given (drop 10 text) >>= (λ rest.
    Some (record { date = date; clock = rest.0; ahead = rest.1 })))

-- the day before, and the day after
abbrev pub day_before : CivilDay → CivilDay
day_before date =
    if nat_lt 1 date.day then record date { day = date.day - 1 }
    else (if nat_lt 1 date.month then record date { month = date.month - 1; day = days_in_month (pos date.year) (date.month - 1) }
    else record { year = date.year - 1; month = 12; day = 31 })

abbrev pub day_after : CivilDay → CivilDay
day_after date =
    if nat_lt date.day (days_in_month (pos date.year) date.month) then record date { day = date.day + 1 }
    else (if nat_lt date.month 12 then record date { month = date.month + 1; day = 1 }
    else record { year = date.year + 1; month = 1; day = 1 })

-- the day and time of day at so many milliseconds from a day's midnight, at most one day off
abbrev pub at_milliseconds : CivilDay → ℤ → CivilDay × ℕ
at_milliseconds date (negsuc n) = (day_before date, 86_400_000 - suc n)
at_milliseconds date (pos n) = if nat_lt n 86_400_000 then (date, n) else (day_after date, n - 86_400_000)

-- the day and time of day of a moment in UTC
abbrev pub in_utc : Moment → CivilDay × ℕ
in_utc m = at_milliseconds m.date (pos m.clock -ℤ (m.ahead *ℤ pos 60_000))

-- the canonical text of a moment, if it does not lie before the year 0001
abbrev pub moment_text : Moment → Option (List ℕ)
moment_text m = if nat_le 1 (in_utc m).0.year then Some (utc_text (in_utc m).0 (in_utc m).1) else None

-- the canonical text of a time
abbrev pub time_canonical : ℤ → List ℕ → Option (List ℕ)
time_canonical given text = moment_of given text >>= moment_text
