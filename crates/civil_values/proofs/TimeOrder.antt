-- The byte order of canonical times is the order of their instants.
use Rattle.std.proofs.Common.{◌≡◌, ◌∙◌, sym, refl, ap, ℕ, ◌+◌, ◌*◌, ◌/◌, ◌%◌, ◌<◌, ℤ, pos, ◌+ℤ◌, ◌*ℤ◌, ◌<ℤ◌, List, [], ◌∷◌, ◌++◌, ◌⊎◌, inl, inr, arith, mul-le-mul_right}
use Rattle.std.specs.Prelude.{codes, int_lt}
use Rattle.std.specs.Ordering.{nat_cmp, int_cmp, ordering_then}
use Rattle.std.specs.declared.cmp.Ordering.{Ordering}
use Rattle.std.specs.declared.cmp.Ordering.TheVariants.{Less, Equal, Greater}
use Rattle.std.specs.Cmp.Lexicographic.{slice_cmp}
use Rattle.std.proofs.lemmas.Bool.{cases_Bool, cases_order, eq-eqb, ne_eqb, lt-ltb, le-ltb}
use Rattle.std.proofs.lemmas.Int.{by_lt_z}
use Rattle.jiff_core.proofs.SignedLemmas.{signed_arith}
use Rattle.jiff_core.proofs.DateLemmas.{cases_date, epoch_day-lt, epoch_day_same}
use Rattle.civil_values.specs.Times.{two, three, CivilDay, day_number, utc_text, IsTimeText}
use Rattle.civil_values.proofs.TimeLaws.{date_of}

less_is : (a b : ℕ) → a < b → nat_cmp a b ≡ Less
less_is a b h = rw (lt-ltb a b h) refl

equal_is : (a b : ℕ) → a ≡ b → nat_cmp a b ≡ Equal
equal_is a b h = rw (le-ltb a b (omega arith), eq-eqb a b h) refl

greater_is : (a b : ℕ) → b < a → nat_cmp a b ≡ Greater
greater_is a b h = rw (le-ltb a b (omega arith), ne_eqb a b (λ e. absurd (omega arith))) refl

-- a test of two numbers decides as that of two others
same_cmp : (a b c d : ℕ) → (a ≡ b → c ≡ d) → (a < b → c < d) → (b < a → d < c) → nat_cmp a b ≡ nat_cmp c d
same_cmp a b c d equal lower higher = elim (cases_order a b) [
  | inl e ↦ equal_is a b e ∙ sym (equal_is c d (equal e))
  | inr (inl l) ↦ less_is a b l ∙ sym (less_is c d (lower l))
  | inr (inr g) ↦ greater_is a b g ∙ sym (greater_is c d (higher g))
]

then_equal : (o : Ordering) → ordering_then o Equal ≡ o
then_equal Less = refl
then_equal Equal = refl
then_equal Greater = refl

-- two parts of a number in order: the higher first
joined : (k a b c d : ℕ) (o : Ordering) → b < k → d < k → ordering_then (nat_cmp a c) (ordering_then (nat_cmp b d) o) ≡ ordering_then (nat_cmp (a * k + b) (c * k + d)) o
joined k a b c d o low_b low_d = elim (cases_order a c) [
  | inl e ↦ rw (equal_is a c e) (ap (λ p. ordering_then p o) (same_cmp b d (a * k + b) (c * k + d) (λ h. rw (e, h) refl) (λ h. rw e (omega arith)) (λ h. rw e (omega arith))))
  | inr (inl l) ↦ rw (less_is a c l, less_is (a * k + b) (c * k + d) (omega (arith, mul-le-mul_right k l))) refl
  | inr (inr g) ↦ rw (greater_is a c g, greater_is (a * k + b) (c * k + d) (omega (arith, mul-le-mul_right k g))) refl
]

-- two parts that are all of a number
joined_last : (k a b c d m n : ℕ) → b < k → d < k → a * k + b ≡ m → c * k + d ≡ n → ordering_then (nat_cmp a c) (nat_cmp b d) ≡ nat_cmp m n
joined_last k a b c d m n low_b low_d em en =
    ap (ordering_then (nat_cmp a c)) (sym (then_equal (nat_cmp b d))) ∙ joined k a b c d Equal low_b low_d ∙ then_equal (nat_cmp (a * k + b) (c * k + d)) ∙ (rw (em, en) refl)

digit_cmp : (a b : ℕ) → nat_cmp (48 + a) (48 + b) ≡ nat_cmp a b
digit_cmp a b = same_cmp (48 + a) (48 + b) a b (λ h. omega arith) (λ h. omega arith) (λ h. omega arith)

-- two digits before two texts
two_cmp : (m n : ℕ) (x y : List ℕ) → slice_cmp nat_cmp (two m ++ x) (two n ++ y) ≡ ordering_then (nat_cmp m n) (slice_cmp nat_cmp x y)
two_cmp m n x y =
    let o : Ordering = slice_cmp nat_cmp x y in
    let em : m / 10 * 10 + m % 10 ≡ m = omega arith in
    let en : n / 10 * 10 + n % 10 ≡ n = omega arith in
    let parts = joined 10 (m / 10) (m % 10) (n / 10) (n % 10) o (omega arith) (omega arith) in
    rw (digit_cmp (m / 10) (n / 10), digit_cmp (m % 10) (n % 10)) (rw (em, en) at parts)

-- what stands behind the seconds, the minutes and the hours of a text, and its time of day
abbrev after_second : ℕ → List ℕ
after_second c = 46 ∷ (three (c % 1000) ++ codes "+00:00")

abbrev after_minute : ℕ → List ℕ
after_minute c = 58 ∷ (two (c / 1000 % 60) ++ after_second c)

abbrev after_hour : ℕ → List ℕ
after_hour c = 58 ∷ (two (c / 60_000 % 60) ++ after_minute c)

abbrev clock_text : ℕ → List ℕ
clock_text c = 84 ∷ (two (c / 3_600_000) ++ after_hour c)

second_cmp : (c d : ℕ) → slice_cmp nat_cmp (after_second c) (after_second d) ≡ nat_cmp (c % 1000) (d % 1000)
second_cmp c d =
    let low = two_cmp (c % 1000 % 100) (d % 1000 % 100) (codes "+00:00") (codes "+00:00") ∙ then_equal (nat_cmp (c % 1000 % 100) (d % 1000 % 100)) in
    ap (λ p. ordering_then p (slice_cmp nat_cmp (two (c % 1000 % 100) ++ codes "+00:00") (two (d % 1000 % 100) ++ codes "+00:00"))) (digit_cmp (c % 1000 / 100) (d % 1000 / 100))
    ∙ ap (ordering_then (nat_cmp (c % 1000 / 100) (d % 1000 / 100))) low
    ∙ joined_last 100 (c % 1000 / 100) (c % 1000 % 100) (d % 1000 / 100) (d % 1000 % 100) (c % 1000) (d % 1000) (omega arith) (omega arith) (omega arith) (omega arith)

minute_cmp : (c d : ℕ) → slice_cmp nat_cmp (after_minute c) (after_minute d) ≡ nat_cmp (c % 60_000) (d % 60_000)
minute_cmp c d =
    two_cmp (c / 1000 % 60) (d / 1000 % 60) (after_second c) (after_second d) ∙ ap (ordering_then (nat_cmp (c / 1000 % 60) (d / 1000 % 60))) (second_cmp c d)
    ∙ joined_last 1000 (c / 1000 % 60) (c % 1000) (d / 1000 % 60) (d % 1000) (c % 60_000) (d % 60_000) (omega arith) (omega arith) (omega arith) (omega arith)

hour_cmp : (c d : ℕ) → slice_cmp nat_cmp (after_hour c) (after_hour d) ≡ nat_cmp (c % 3_600_000) (d % 3_600_000)
hour_cmp c d =
    two_cmp (c / 60_000 % 60) (d / 60_000 % 60) (after_minute c) (after_minute d) ∙ ap (ordering_then (nat_cmp (c / 60_000 % 60) (d / 60_000 % 60))) (minute_cmp c d)
    ∙ joined_last 60_000 (c / 60_000 % 60) (c % 60_000) (d / 60_000 % 60) (d % 60_000) (c % 3_600_000) (d % 3_600_000) (omega arith) (omega arith) (omega arith) (omega arith)

clock_cmp : (c d : ℕ) → slice_cmp nat_cmp (clock_text c) (clock_text d) ≡ nat_cmp c d
clock_cmp c d =
    two_cmp (c / 3_600_000) (d / 3_600_000) (after_hour c) (after_hour d) ∙ ap (ordering_then (nat_cmp (c / 3_600_000) (d / 3_600_000))) (hour_cmp c d)
    ∙ joined_last 3_600_000 (c / 3_600_000) (c % 3_600_000) (d / 3_600_000) (d % 3_600_000) c d (omega arith) (omega arith) (omega arith) (omega arith)

-- the order of days by year, month and day, and then of times of day
abbrev parts_cmp : CivilDay → CivilDay → ℕ → ℕ → Ordering
parts_cmp a b c d = ordering_then (nat_cmp a.year b.year) (ordering_then (nat_cmp a.month b.month) (ordering_then (nat_cmp a.day b.day) (nat_cmp c d)))

abbrev after_month : CivilDay → ℕ → List ℕ
after_month a c = 45 ∷ (two a.day ++ clock_text c)

abbrev after_year : CivilDay → ℕ → List ℕ
after_year a c = 45 ∷ (two a.month ++ after_month a c)

month_cmp : (a b : CivilDay) (c d : ℕ) → slice_cmp nat_cmp (after_month a c) (after_month b d) ≡ ordering_then (nat_cmp a.day b.day) (nat_cmp c d)
month_cmp a b c d = two_cmp a.day b.day (clock_text c) (clock_text d) ∙ ap (ordering_then (nat_cmp a.day b.day)) (clock_cmp c d)

year_cmp : (a b : CivilDay) (c d : ℕ) → slice_cmp nat_cmp (after_year a c) (after_year b d) ≡ ordering_then (nat_cmp a.month b.month) (ordering_then (nat_cmp a.day b.day) (nat_cmp c d))
year_cmp a b c d = two_cmp a.month b.month (after_month a c) (after_month b d) ∙ ap (ordering_then (nat_cmp a.month b.month)) (month_cmp a b c d)

text_cmp : (a b : CivilDay) (c d : ℕ) → slice_cmp nat_cmp (utc_text a c) (utc_text b d) ≡ parts_cmp a b c d
text_cmp a b c d =
    let ea : a.year / 100 * 100 + a.year % 100 ≡ a.year = omega arith in
    let eb : b.year / 100 * 100 + b.year % 100 ≡ b.year = omega arith in
    let rest : Ordering = ordering_then (nat_cmp a.month b.month) (ordering_then (nat_cmp a.day b.day) (nat_cmp c d)) in
    let years = joined 100 (a.year / 100) (a.year % 100) (b.year / 100) (b.year % 100) rest (omega arith) (omega arith) in
    two_cmp (a.year / 100) (b.year / 100) (two (a.year % 100) ++ after_year a c) (two (b.year % 100) ++ after_year b d)
    ∙ ap (ordering_then (nat_cmp (a.year / 100) (b.year / 100))) (two_cmp (a.year % 100) (b.year % 100) (after_year a c) (after_year b d) ∙ ap (ordering_then (nat_cmp (a.year % 100) (b.year % 100))) (year_cmp a b c d))
    ∙ (rw (ea, eb) at years)

int_less : (m n : ℤ) → m <ℤ n → int_cmp m n ≡ Less
int_less m n h = elim (cases_Bool (int_lt m n)) [ inl t ↦ rw t refl | inr f ↦ absurd (omega (arith, signed_arith)) ]

int_greater : (m n : ℤ) → n <ℤ m → int_cmp m n ≡ Greater
int_greater m n h = elim (cases_Bool (int_lt m n)) [
  | inl t ↦ absurd (omega (arith, signed_arith))
  | inr f ↦ elim (cases_Bool (int_lt n m)) [ inl t ↦ rw (f, t) refl | inr g ↦ absurd (omega (arith, signed_arith)) ]
]

int_equal : (m n : ℤ) → m ≡ n → int_cmp m n ≡ Equal
int_equal m n h = elim (cases_Bool (int_lt m n)) [
  | inl t ↦ absurd (omega (arith, signed_arith))
  | inr f ↦ elim (cases_Bool (int_lt n m)) [ inl t ↦ absurd (omega (arith, signed_arith)) | inr g ↦ rw (f, g) refl ]
]

-- an earlier day comes first, whatever the times of day
earlier_first : (a b : CivilDay) (c d : ℕ) → (a.year < b.year) ⊎ ((a.year ≡ b.year) × ((a.month < b.month) ⊎ ((a.month ≡ b.month) × (a.day < b.day)))) → parts_cmp a b c d ≡ Less
earlier_first a b c d (inl y) = rw (less_is a.year b.year y) refl
earlier_first a b c d (inr (y, inl m)) = rw (equal_is a.year b.year y, less_is a.month b.month m) refl
earlier_first a b c d (inr (y, inr day)) = rw (equal_is a.year b.year y, equal_is a.month b.month day.0, less_is a.day b.day day.1) refl

later_last : (a b : CivilDay) (c d : ℕ) → (b.year < a.year) ⊎ ((b.year ≡ a.year) × ((b.month < a.month) ⊎ ((b.month ≡ a.month) × (b.day < a.day)))) → parts_cmp a b c d ≡ Greater
later_last a b c d (inl y) = rw (greater_is a.year b.year y) refl
later_last a b c d (inr (y, inl m)) = rw (equal_is a.year b.year (sym y), greater_is a.month b.month m) refl
later_last a b c d (inr (y, inr day)) = rw (equal_is a.year b.year (sym y), equal_is a.month b.month (sym day.0), greater_is a.day b.day day.1) refl

naturals : (a b : CivilDay) → (pos a.year <ℤ pos b.year) ⊎ ((pos a.year ≡ pos b.year) × ((a.month < b.month) ⊎ ((a.month ≡ b.month) × (a.day < b.day))))
    → (a.year < b.year) ⊎ ((a.year ≡ b.year) × ((a.month < b.month) ⊎ ((a.month ≡ b.month) × (a.day < b.day))))
naturals a b (inl y) = inl (omega (arith, signed_arith))
naturals a b (inr (y, rest)) = inr (cc, rest)

clock_order : (m n : ℤ) (c d : ℕ) (day : ℤ) → m ≡ (day *ℤ pos 86_400_000) +ℤ pos c → n ≡ (day *ℤ pos 86_400_000) +ℤ pos d → nat_cmp c d ≡ int_cmp m n
clock_order m n c d day em en = elim (cases_order c d) [
  | inl e ↦ equal_is c d e ∙ sym (int_equal m n (omega (arith, signed_arith)))
  | inr (inl l) ↦ less_is c d l ∙ sym (int_less m n (omega (arith, signed_arith)))
  | inr (inr g) ↦ greater_is c d g ∙ sym (int_greater m n (omega (arith, signed_arith)))
]

-- the order of the parts is that of the instants
parts_order : (m n : ℤ) (a b : List ℕ) (h : IsTimeText m a) (k : IsTimeText n b) → parts_cmp h.date k.date h.clock k.clock ≡ int_cmp m n
unfolding date_of
parts_order m n a b h k =
    let hw = h.within in let kw = k.within in let hn = h.number in let kn = k.number in
    let x = date_of 9999 h.date (omega arith) h.exists in
    let y = date_of 9999 k.date (omega arith) k.exists in
    elim (cases_date x y) [
      | inl early ↦
          let days : day_number h.date <ℤ day_number k.date = epoch_day-lt x y early in
          earlier_first h.date k.date h.clock k.clock (naturals h.date k.date early) ∙ sym (int_less m n (omega (arith, signed_arith)))
      | inr (inl late) ↦
          let days : day_number k.date <ℤ day_number h.date = epoch_day-lt y x late in
          later_last h.date k.date h.clock k.clock (naturals k.date h.date late) ∙ sym (int_greater m n (omega (arith, signed_arith)))
      | inr (inr same) ↦
          let days : day_number h.date ≡ day_number k.date = epoch_day_same x y same.0 same.1 same.2 in
          let year : h.date.year ≡ k.date.year = let e = same.0 in cc in
          (rw (equal_is h.date.year k.date.year year, equal_is h.date.month k.date.month same.1, equal_is h.date.day k.date.day same.2) refl)
          ∙ clock_order m n h.clock k.clock (day_number k.date) (omega (arith, signed_arith)) (omega (arith, signed_arith))
    ]

pub time_order : (m n : ℤ) (a b : List ℕ) → IsTimeText m a → IsTimeText n b → slice_cmp nat_cmp a b ≡ int_cmp m n
time_order m n a b h k =
    ap (λ (x : List ℕ). slice_cmp nat_cmp x b) h.spelled ∙ ap (slice_cmp nat_cmp (utc_text h.date h.clock)) k.spelled
    ∙ text_cmp h.date k.date h.clock k.clock ∙ parts_order m n a b h k

same_list : (xs : List ℕ) → slice_cmp nat_cmp xs xs ≡ Equal
same_list [] = refl
same_list (x ∷ xs) = rw (equal_is x x refl) (same_list xs)

pub one_instant : (m n : ℤ) (text : List ℕ) → IsTimeText m text → IsTimeText n text → m ≡ n
one_instant m n text h k =
    let same : int_cmp m n ≡ Equal = sym (time_order m n text text h k) ∙ same_list text in
    by_lt_z m n (λ less. let e = int_less m n less in cc) (λ ge. by_lt_z n m (λ more. let e = int_greater m n more in cc) (λ le. omega (arith, signed_arith)))
