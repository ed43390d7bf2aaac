-- Times of cells: what instant a text says, and the one text that an instant is written as.
-- Days are those of the proleptic Gregorian calendar of ISO 8601, and instants milliseconds from 1970-01-01T00:00 UTC.
use Rattle.std.specs.Prelude.{◌≡◌, ℕ, ◌+◌, ◌-◌, ◌*◌, ◌/◌, ◌%◌, ◌<◌, ◌≤◌, ◌⊎◌, ℤ, pos, neg_ℤ, ◌+ℤ◌, ◌-ℤ◌, ◌*ℤ◌, ◌≤ℤ◌, ◌<ℤ◌, List, [], ◌∷◌, ◌++◌, length, get_or, codes}
use Rattle.std.specs.List.{All}
use Rattle.std.specs.Int.{IsInRange}
use Rattle.jiff_core.specs.Calendar.{days_from_civil, days_in_month}

-- a number below 100 in two digits
abbrev pub two : ℕ → List ℕ
two n = (48 + n / 10) ∷ (48 + n % 10) ∷ []

-- a number below 1000 in three digits
abbrev pub three : ℕ → List ℕ
three n = (48 + n / 100) ∷ two (n % 100)

-- a day by its year, month and day of the month
pub record CivilDay : Type 0 where
  pub year : ℕ
  pub month : ℕ
  pub day : ℕ

-- `YYYY-MM-DD`
abbrev pub day_text : CivilDay → List ℕ
day_text date = two (date.year / 100) ++ two (date.year % 100) ++ (45 ∷ two date.month) ++ (45 ∷ two date.day)

-- the calendar has this day, in the years from 1 to `last`
pub record IsDayTo (last : ℕ) (date : CivilDay) : Type 0 where
  pub year_in : IsInRange 1 last date.year
  pub month_in : IsInRange 1 12 date.month
  pub day_in : IsInRange 1 (days_in_month (pos date.year) date.month) date.day

-- the number of a day, where 1970-01-01 is 0
abbrev pub day_number : CivilDay → ℤ
day_number date = days_from_civil (pos date.year) date.month date.day

-- a day, the milliseconds since its midnight, and how many minutes its clock is ahead of UTC
pub record Moment : Type 0 where
  pub date : CivilDay
  pub clock : ℕ
  pub ahead : ℤ

-- the instant of a moment
abbrev pub instant : Moment → ℤ
instant m = ((day_number m.date *ℤ pos 86_400_000) +ℤ pos m.clock) -ℤ (m.ahead *ℤ pos 60_000)

-- 0001-01-01T00:00 UTC, and the first instant after the year 9999
abbrev pub first_instant : ℤ
first_instant = neg_ℤ (pos 62_135_596_800_000)

abbrev pub end_instant : ℤ
end_instant = pos 253_402_300_800_000

-- an instant of the years 0001 to 9999
abbrev pub IsWritable : ℤ → Type 0
IsWritable ms = (first_instant ≤ℤ ms) × (ms <ℤ end_instant)

-- the byte of a digit
abbrev pub IsDigit : ℕ → Type 0
IsDigit b = IsInRange 48 57 b

-- the first three digits of a fraction, where each that is not there is 0
abbrev pub kept : List ℕ → ℕ
kept digits = (get_or digits 0 48 - 48) * 100 + (get_or digits 1 48 - 48) * 10 + (get_or digits 2 48 - 48)

-- a fraction of a second in milliseconds: none, or `.` and one to nine digits
pub data IsFraction (text : List ℕ) (ms : ℕ) : Type 0 where
  absent : text ≡ [] → ms ≡ 0 → IsFraction text ms
  digits : (spelled : List ℕ) → All IsDigit spelled → IsInRange 1 9 (length spelled) → text ≡ 46 ∷ spelled → ms ≡ kept spelled → IsFraction text ms

-- seconds in milliseconds: none, or `:SS` and a fraction
pub data IsSeconds (text : List ℕ) (ms : ℕ) : Type 0 where
  absent : text ≡ [] → ms ≡ 0 → IsSeconds text ms
  whole : (s part : ℕ) (fraction : List ℕ) → s < 60 → IsFraction fraction part → text ≡ (58 ∷ two s) ++ fraction → ms ≡ s * 1000 + part → IsSeconds text ms

-- a time of day in milliseconds: `HH:MM` and seconds
pub record IsClock (text : List ℕ) (ms : ℕ) : Type 0 where
  pub hour : ℕ
  pub minute : ℕ
  pub part : ℕ
  pub seconds : List ℕ
  pub hour_in : hour < 24
  pub minute_in : minute < 60
  pub seconds_are : IsSeconds seconds part
  pub spelled : text ≡ two hour ++ (58 ∷ two minute) ++ seconds
  pub number : ms ≡ hour * 3_600_000 + minute * 60_000 + part

-- `+` or `-`, and so many minutes ahead of UTC or behind it
pub data IsSigned (sign n : ℕ) (minutes : ℤ) : Type 0 where
  plus : sign ≡ 43 → minutes ≡ pos n → IsSigned sign n minutes
  minus : sign ≡ 45 → minutes ≡ neg_ℤ (pos n) → IsSigned sign n minutes

-- `HH`, `HHMM` or `HH:MM`, in minutes
pub data IsSpan (text : List ℕ) (n : ℕ) : Type 0 where
  hours : (h : ℕ) → h < 100 → text ≡ two h → n ≡ h * 60 → IsSpan text n
  plain : (h m : ℕ) → h < 100 → m < 60 → text ≡ two h ++ two m → n ≡ h * 60 + m → IsSpan text n
  parted : (h m : ℕ) → h < 100 → m < 60 → text ≡ two h ++ (58 ∷ two m) → n ≡ h * 60 + m → IsSpan text n

-- minutes ahead of UTC: `Z`, `z`, or a sign and at most 14 hours
pub data IsOffset (text : List ℕ) (minutes : ℤ) : Type 0 where
  utc : (b : ℕ) → (b ≡ 90) ⊎ (b ≡ 122) → text ≡ b ∷ [] → minutes ≡ pos 0 → IsOffset text minutes
  signed : (sign n : ℕ) (span : List ℕ) → IsSpan span n → n ≤ 840 → IsSigned sign n minutes → text ≡ sign ∷ span → IsOffset text minutes

-- `T`, `t` or a space, between a day and a time of day
abbrev pub IsMark : ℕ → Type 0
IsMark b = (b ≡ 84) ⊎ ((b ≡ 116) ⊎ (b ≡ 32))

-- what stands behind a day, where `given` is the offset of a text that names none: nothing, a time of day, or one with an offset
pub data IsAfterDay (given : ℤ) (text : List ℕ) (clock : ℕ) (ahead : ℤ) : Type 0 where
  midnight : text ≡ [] → clock ≡ 0 → ahead ≡ given → IsAfterDay given text clock ahead
  local : (mark : ℕ) (time : List ℕ) → IsMark mark → IsClock time clock → text ≡ mark ∷ time → ahead ≡ given → IsAfterDay given text clock ahead
  placed : (mark : ℕ) (time offset : List ℕ) → IsMark mark → IsClock time clock → IsOffset offset ahead → text ≡ mark ∷ (time ++ offset) → IsAfterDay given text clock ahead

-- the text spells a moment of the years 0001 to 9998
pub record IsMoment (given : ℤ) (text : List ℕ) (m : Moment) : Type 0 where
  pub rest : List ℕ
  pub exists : IsDayTo 9998 m.date
  pub spelled : text ≡ day_text m.date ++ rest
  pub rest_is : IsAfterDay given rest m.clock m.ahead

-- the text is a time, and ms is its instant, not before the year 0001
pub record IsTime (given : ℤ) (text : List ℕ) (ms : ℤ) : Type 0 where
  pub moment : Moment
  pub spells : IsMoment given text moment
  pub number : ms ≡ instant moment
  pub late : first_instant ≤ℤ ms

-- `YYYY-MM-DDTHH:MM:SS.mmm+00:00`
abbrev pub utc_text : CivilDay → ℕ → List ℕ
utc_text date clock =
    day_text date ++ (84 ∷ two (clock / 3_600_000)) ++ (58 ∷ two (clock / 60_000 % 60)) ++ (58 ∷ two (clock / 1000 % 60))
    ++ (46 ∷ three (clock % 1000)) ++ codes "+00:00"

-- the text is the one that the instant is written as: its day and time of day in UTC, in the years 0001 to 9999
pub record IsTimeText (ms : ℤ) (text : List ℕ) : Type 0 where
  pub date : CivilDay
  pub clock : ℕ
  pub exists : IsDayTo 9999 date
  pub within : clock < 86_400_000
  pub number : ms ≡ instant (record { date = date; clock = clock; ahead = pos 0 })
  pub spelled : text ≡ utc_text date clock
