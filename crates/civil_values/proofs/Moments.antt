-- The reader of moments gives what `IsMoment` says.
use Rattle.std.proofs.Common.{◌≡◌, ◌∙◌, sym, refl, ap, ℕ, ◌+◌, ◌-◌, ◌*◌, ◌/◌, ◌%◌, ◌<◌, ◌≤◌, true, false, ◌&&◌, ◌||◌, ◌==◌, nat_le, ℤ, pos, List, [], ◌∷◌, ◌++◌, length, slice_index, get_or, take, drop, Option, Some, None, arith, inl, inr, ◌⊎◌, subst, option_map, length-take, length-drop, ◌*ℤ◌, ◌+ℤ◌, ◌-ℤ◌}
use Rattle.std.proofs.lemmas.Bool.{and_parts, or_cases, le-leb, leb-true, eqb-true, ne_eqb}
use Rattle.std.proofs.lemmas.List.{take-append-drop, append-nil, take_all}
use Rattle.std.proofs.lemmas.Slice.Eq.{text_from_reads}
use Rattle.jiff_core.specs.Calendar.{days_in_month}
use Rattle.jiff_core.proofs.CalendarLemmas.{days_in_month_bounds}
use Rattle.civil_values.specs.Times.{two, CivilDay, IsDayTo, day_text, day_number, Moment, instant, IsClock, IsSigned, IsOffset, IsMark, IsAfterDay, IsMoment}
use Rattle.civil_values.specs.TimeReader.{◌>>=◌, two_of, is_day_to, read_date, day_of, clock_of, zone_of, placed_of, is_mark, after_day, moment_of}
use Rattle.civil_values.proofs.Digits.{went, passed, some_same, two_of-two, AreDigits, digits_of_two}
use Rattle.civil_values.proofs.Offsets.{offset_of-sound, offset_of-complete}
use Rattle.civil_values.proofs.Clocks.{Stops, clock_sound, clock_complete}

pub is_day_to-sound : (last : ℕ) (date : CivilDay) → is_day_to last date ≡ true → IsDayTo last date
is_day_to-sound last date e =
    let month : ℕ = days_in_month (pos date.year) date.month in
    let a = and_parts (nat_le 1 date.year && nat_le date.year last && nat_le 1 date.month && nat_le date.month 12 && nat_le 1 date.day) (nat_le date.day month) e in
    let b = and_parts (nat_le 1 date.year && nat_le date.year last && nat_le 1 date.month && nat_le date.month 12) (nat_le 1 date.day) a.0 in
    let c = and_parts (nat_le 1 date.year && nat_le date.year last && nat_le 1 date.month) (nat_le date.month 12) b.0 in
    let d = and_parts (nat_le 1 date.year && nat_le date.year last) (nat_le 1 date.month) c.0 in
    let f = and_parts (nat_le 1 date.year) (nat_le date.year last) d.0 in
    record {
      year_in = (leb-true 1 date.year f.0, leb-true date.year last f.1);
      month_in = (leb-true 1 date.month d.1, leb-true date.month 12 c.1);
      day_in = (leb-true 1 date.day b.1, leb-true date.day month a.1);
    }

pub is_day_to-complete : (last : ℕ) (date : CivilDay) → IsDayTo last date → is_day_to last date ≡ true
is_day_to-complete last date h =
    rw (
      le-leb 1 date.year h.year_in.0,
      le-leb date.year last h.year_in.1,
      le-leb 1 date.month h.month_in.0,
      le-leb date.month 12 h.month_in.1,
      le-leb 1 date.day h.day_in.0,
      le-leb date.day (days_in_month (pos date.year) date.month) h.day_in.1,
    ) refl

-- a text of ten bytes is its digits and dashes
spelled : (s : List ℕ) (a b c d : ℕ) → length s ≡ 10
    → AreDigits (get_or s 0 0) (get_or s 1 0) a → AreDigits (get_or s 2 0) (get_or s 3 0) b
    → get_or s 4 0 ≡ 45
    → AreDigits (get_or s 5 0) (get_or s 6 0) c
    → get_or s 7 0 ≡ 45
    → AreDigits (get_or s 8 0) (get_or s 9 0) d
    → s ≡ day_text (record { year = a * 100 + b; month = c; day = d })
spelled s a b c d len ha hb dash hc dash2 hd =
    let century : (a * 100 + b) / 100 ≡ a = let e = ha.small in let f = hb.small in omega arith in
    let rest : (a * 100 + b) % 100 ≡ b = let e = ha.small in let f = hb.small in omega arith in
    rw (century, rest) (text_from_reads s (two a ++ two b ++ (45 ∷ two c) ++ (45 ∷ two d)) len (
    (ha.first, (ha.second, (hb.first, (hb.second, (dash, (hc.first, (hc.second, (dash2, (hd.first, (hd.second, tt))))))))))))

-- the parts of a day behind its dashes
abbrev read_digits : ℕ → ℕ → ℕ → ℕ → ℕ → ℕ → ℕ → ℕ → Option CivilDay
read_digits a b c d e f g h =
    two_of a b >>= (λ century. two_of c d >>= (λ year. two_of e f >>= (λ month. two_of g h >>= (λ day.
    read_date (record { year = century * 100 + year; month = month; day = day })))))

day_is : (text : List ℕ) (made date : CivilDay) → made ≡ date → IsDayTo 9998 made → text ≡ day_text made → IsDayTo 9998 date × (text ≡ day_text date)
day_is text made date same exists is = rw (← same) (exists, is)

day_sound : (text : List ℕ) (date : CivilDay) → day_of text ≡ Some date → IsDayTo 9998 date × (text ≡ day_text date)
day_sound text date e =
    let a : ℕ = slice_index text 0 in let b : ℕ = slice_index text 1 in let c : ℕ = slice_index text 2 in let d : ℕ = slice_index text 3 in
    let f : ℕ = slice_index text 5 in let g : ℕ = slice_index text 6 in let h : ℕ = slice_index text 8 in let i : ℕ = slice_index text 9 in
    let p = passed ((length text == 10) && (slice_index text 4 == 45) && (slice_index text 7 == 45)) (read_digits a b c d f g h i) date e in
    let t = and_parts ((length text == 10) && (slice_index text 4 == 45)) (slice_index text 7 == 45) p.0 in
    let u = and_parts (length text == 10) (slice_index text 4 == 45) t.0 in
    let w1 = went (two_of a b) (λ century. two_of c d >>= (λ year. two_of f g >>= (λ month. two_of h i >>= (λ day. read_date (record { year = century * 100 + year; month = month; day = day }))))) date p.1 in
    let w2 = went (two_of c d) (λ year. two_of f g >>= (λ month. two_of h i >>= (λ day. read_date (record { year = w1.value * 100 + year; month = month; day = day })))) date w1.gives in
    let w3 = went (two_of f g) (λ month. two_of h i >>= (λ day. read_date (record { year = w1.value * 100 + w2.value; month = month; day = day }))) date w2.gives in
    let w4 = went (two_of h i) (λ day. read_date (record { year = w1.value * 100 + w2.value; month = w3.value; day = day })) date w3.gives in
    let made : CivilDay = record { year = w1.value * 100 + w2.value; month = w3.value; day = w4.value } in
    let q = passed (is_day_to 9998 made) (Some made) date w4.gives in
    let same : made ≡ date = some_same made date q.1 in
    day_is text made date same (is_day_to-sound 9998 made q.0) (
    spelled text w1.value w2.value w3.value w4.value (eqb-true (length text) 10 u.0)
    (digits_of_two a b w1.value w1.was) (digits_of_two c d w2.value w2.was) (eqb-true (slice_index text 4) 45 u.1)
    (digits_of_two f g w3.value w3.was) (eqb-true (slice_index text 7) 45 t.1) (digits_of_two h i w4.value w4.was))

day_complete : (date : CivilDay) → IsDayTo 9998 date → day_of (day_text date) ≡ Some date
day_complete date h =
    let y = h.year_in in let m = h.month_in in let d = h.day_in in
    let month = days_in_month_bounds (pos date.year) date.month in
    let year : date.year / 100 * 100 + date.year % 100 ≡ date.year = omega arith in
    rw (
      two_of-two (date.year / 100) (omega arith),
      two_of-two (date.year % 100) (omega arith),
      two_of-two date.month (omega arith),
      two_of-two date.day (omega arith),
      year,
      is_day_to-complete 9998 date h,
    ) refl

-- an offset does not go on with a time of day
span_stops : (sign : ℕ) (rest : List ℕ) → (sign ≡ 43) ⊎ (sign ≡ 45) → Stops (sign ∷ rest)
span_stops sign rest (inl plus) = rw plus (record { colon = λ e. absurd (omega arith); point = λ e. absurd (omega arith); digit = refl })
span_stops sign rest (inr minus) = rw minus (record { colon = λ e. absurd (omega arith); point = λ e. absurd (omega arith); digit = refl })

offset_stops : (text : List ℕ) (z : ℤ) → IsOffset text z → Stops text
offset_stops text z (IsOffset.utc b (inl upper) et ez) = rw (et, upper) (record { colon = λ e. absurd (omega arith); point = λ e. absurd (omega arith); digit = refl })
offset_stops text z (IsOffset.utc b (inr lower) et ez) = rw (et, lower) (record { colon = λ e. absurd (omega arith); point = λ e. absurd (omega arith); digit = refl })
offset_stops text z (IsOffset.signed sign n span s most (IsSigned.plus es ez) et) = rw et (span_stops sign span (inl es))
offset_stops text z (IsOffset.signed sign n span s most (IsSigned.minus es ez) et) = rw et (span_stops sign span (inr es))

nothing_stops : Stops []
nothing_stops = record { colon = λ e. absurd (omega arith); point = λ e. absurd (omega arith); digit = refl }

is_mark-sound : (b : ℕ) → is_mark b ≡ true → IsMark b
is_mark-sound b e = elim (or_cases ((b == 84) || (b == 116)) (b == 32) e) [
  | inr space ↦ inr (inr (eqb-true b 32 space))
  | inl letter ↦ elim (or_cases (b == 84) (b == 116) letter) [
    | inl upper ↦ inl (eqb-true b 84 upper)
    | inr lower ↦ inr (inl (eqb-true b 116 lower))
  ]
]

is_mark-complete : (b : ℕ) → IsMark b → is_mark b ≡ true
is_mark-complete b (inl upper) = rw upper refl
is_mark-complete b (inr (inl lower)) = rw lower refl
is_mark-complete b (inr (inr space)) = rw space refl

-- an offset is not empty
offset_there : (text : List ℕ) (z : ℤ) → IsOffset text z → (length text == 0) ≡ false
offset_there text z (IsOffset.utc b w et ez) = rw et refl
offset_there text z (IsOffset.signed sign n span s most signed et) = rw et (ne_eqb (length (sign ∷ span)) 0 (λ z. absurd (omega arith)))

placed_by : (given : ℤ) (mark : ℕ) (text : List ℕ) (clock : ℕ) (ahead : ℤ) → IsMark mark → (rest front : List ℕ) → text ≡ front ++ rest → IsClock front clock
    → zone_of given rest ≡ Some ahead → IsAfterDay given (mark ∷ text) clock ahead
placed_by given mark text clock ahead m [] front is c e =
    IsAfterDay.local mark front m c (ap (λ (t : List ℕ). mark ∷ t) (is ∙ append-nil front)) (sym (some_same given ahead e))
placed_by given mark text clock ahead m (b ∷ rest) front is c e =
    let some : (length (b ∷ rest) == 0) ≡ false = ne_eqb (length (b ∷ rest)) 0 (λ z. absurd (omega arith)) in
    IsAfterDay.placed mark front (b ∷ rest) m c (offset_of-sound (b ∷ rest) ahead (rw some at e)) (ap (λ (t : List ℕ). mark ∷ t) is)

rest_parts : (p q : ℕ × ℤ) → Some p ≡ Some q → (p.0 ≡ q.0) × (p.1 ≡ q.1)
rest_parts p q e = let same = some_same p q e in (ap (λ (x : ℕ × ℤ). x.0) same, ap (λ (x : ℕ × ℤ). x.1) same)

after_sound : (given : ℤ) (text : List ℕ) (clock : ℕ) (ahead : ℤ) → after_day given text ≡ Some (clock, ahead) → IsAfterDay given text clock ahead
after_sound given [] clock ahead e =
    let p = rest_parts (0, given) (clock, ahead) e in
    IsAfterDay.midnight refl (sym p.0) (sym p.1)
after_sound given (mark ∷ text) clock ahead e =
    let some : (length (mark ∷ text) == 0) ≡ false = ne_eqb (length (mark ∷ text)) 0 (λ z. absurd (omega arith)) in
    let p = passed (is_mark mark) (placed_of given text) (clock, ahead) (rw some at e) in
    let w = went (clock_of text) (λ c. zone_of given c.1 >>= (λ ahead. Some (c.0, ahead))) (clock, ahead) p.1 in
    let z = went (zone_of given w.value.1) (λ ahead. Some (w.value.0, ahead)) (clock, ahead) w.gives in
    let q = rest_parts (w.value.0, z.value) (clock, ahead) z.gives in
    let begins = clock_sound text w.value.1 w.value.0 w.was in
    placed_by given mark text clock ahead (is_mark-sound mark p.0) w.value.1 begins.front begins.is
    (subst (λ (n : ℕ). IsClock begins.front n) q.0 begins.holds) (z.was ∙ ap Some q.1)

pub moment_sound : (given : ℤ) (text : List ℕ) (m : Moment) → moment_of given text ≡ Some m → IsMoment given text m
unfolding moment_of
moment_sound given text m e =
    let w = went (day_of (take 10 text)) (λ date. after_day given (drop 10 text) >>= (λ rest. Some (record { date = date; clock = rest.0; ahead = rest.1 }))) m e in
    let v = went (after_day given (drop 10 text)) (λ rest. Some (record { date = w.value; clock = rest.0; ahead = rest.1 })) m w.gives in
    let made : Moment = record { date = w.value; clock = v.value.0; ahead = v.value.1 } in
    let day = day_sound (take 10 text) w.value w.was in
    let is : IsMoment given text made = record {
      rest = drop 10 text;
      exists = day.0;
      spelled = sym (take-append-drop 10 text) ∙ ap (λ (t : List ℕ). t ++ drop 10 text) day.1;
      rest_is = after_sound given (drop 10 text) v.value.0 v.value.1 v.was;
    } in
    subst (λ (x : Moment). IsMoment given text x) (some_same made m v.gives) is

pub after_complete : (given : ℤ) (text : List ℕ) (clock : ℕ) (ahead : ℤ) → IsAfterDay given text clock ahead → after_day given text ≡ Some (clock, ahead)
after_complete given text clock ahead (IsAfterDay.midnight et ec ea) = rw (et, ec, ea) refl
after_complete given text clock ahead (IsAfterDay.local mark time m c et ea) =
    let some : (length (mark ∷ time) == 0) ≡ false = ne_eqb (length (mark ∷ time)) 0 (λ z. absurd (omega arith)) in
    let read : clock_of time ≡ Some (clock, []) = ap clock_of (sym (append-nil time)) ∙ clock_complete time [] clock c nothing_stops in
    rw (et, ea, some, is_mark-complete mark m, read) refl
after_complete given text clock ahead (IsAfterDay.placed mark time offset m c o et) =
    let some : (length (mark ∷ (time ++ offset)) == 0) ≡ false = ne_eqb (length (mark ∷ (time ++ offset))) 0 (λ z. absurd (omega arith)) in
    let read = clock_complete time offset clock c (offset_stops offset ahead o) in
    let there : (length offset == 0) ≡ false = offset_there offset ahead o in
    rw (et, some, is_mark-complete mark m, read, there, offset_of-complete offset ahead o) refl

pub moment_complete : (given : ℤ) (text : List ℕ) (m : Moment) → IsMoment given text m → moment_of given text ≡ Some m
unfolding moment_of
moment_complete given text m h =
    rw (h.spelled, day_complete m.date h.exists, after_complete given h.rest m.clock m.ahead h.rest_is) refl

abbrev moment_with : CivilDay → ℕ × ℤ → Moment
moment_with date rest = record { date = date; clock = rest.0; ahead = rest.1 }

none_after : (o : Option CivilDay) (r : Option (ℕ × ℤ)) → r ≡ None → (o >>= (λ date. r >>= (λ rest. Some (moment_with date rest)))) ≡ None
none_after None r e = refl
none_after (Some date) r e = rw e refl

instant_of_day : (o : Option CivilDay) (n : ℤ) (clock : ℕ) (ahead : ℤ) → Some n ≡ option_map day_number o
    → option_map instant (o >>= (λ date. Some (record { date = date; clock = clock; ahead = ahead }))) ≡ Some (((n *ℤ pos 86_400_000) +ℤ pos clock) -ℤ (ahead *ℤ pos 60_000))
instant_of_day None n clock ahead e = cc
instant_of_day (Some date) n clock ahead e = rw (some_same n (day_number date) e) refl

-- no moment, where one of its parts is none
pub no_day : (given : ℤ) (text : List ℕ) → day_of (take 10 text) ≡ None → moment_of given text ≡ None
unfolding moment_of
no_day given text e = rw e refl

pub short : (given : ℤ) (text : List ℕ) → length text < 10 → moment_of given text ≡ None
short given text less =
    let size : (length (take 10 text) == 10) ≡ false = ne_eqb (length (take 10 text)) 10 (λ e. absurd (omega (arith, length-take 10 text))) in
    no_day given text (rw size refl)

pub no_rest : (given : ℤ) (text : List ℕ) → after_day given (drop 10 text) ≡ None → moment_of given text ≡ None
unfolding moment_of
no_rest given text e = none_after (day_of (take 10 text)) (after_day given (drop 10 text)) e

-- the instant of a moment by its parts
pub instant_by : (given : ℤ) (text : List ℕ) (n : ℤ) (clock : ℕ) (ahead : ℤ) → Some n ≡ option_map day_number (day_of (take 10 text)) → Some (clock, ahead) ≡ after_day given (drop 10 text)
    → option_map instant (moment_of given text) ≡ Some (((n *ℤ pos 86_400_000) +ℤ pos clock) -ℤ (ahead *ℤ pos 60_000))
unfolding moment_of
instant_by given text n clock ahead e f = rw (← f) (instant_of_day (day_of (take 10 text)) n clock ahead e)

pub none_mapped : {A B : Type 0} (f : A → B) (o : Option A) → None ≡ option_map f o → o ≡ None
none_mapped f None e = refl
none_mapped f (Some x) e = cc

-- a moment that is mapped
pub record Mapped {A B : Type 0} (f : A → B) (o : Option A) (y : B) : Type 0 where
  pub value : A
  pub was : o ≡ Some value
  pub gives : f value ≡ y

pub mapped : {A B : Type 0} (f : A → B) (o : Option A) (y : B) → Some y ≡ option_map f o → Mapped f o y
mapped f None y e = cc
mapped f (Some x) y e = record { value = x; was = refl; gives = sym (some_same y (f x) e) }

-- the steps behind the mark of a time of day
pub placed_none : (given : ℤ) (text : List ℕ) (clock : ℕ × List ℕ) → Some clock ≡ clock_of text → None ≡ zone_of given clock.1 → placed_of given text ≡ None
placed_none given text clock e f = rw (← e, ← f) refl

pub placed_some : (given : ℤ) (text : List ℕ) (clock : ℕ × List ℕ) (ahead : ℤ) → Some clock ≡ clock_of text → Some ahead ≡ zone_of given clock.1 → placed_of given text ≡ Some (clock.0, ahead)
placed_some given text clock ahead e f = rw (← e, ← f) refl

-- the step over the mark
pub after_by : (given : ℤ) (text : List ℕ) → 1 ≤ length text → is_mark (slice_index text 0) ≡ true → after_day given text ≡ placed_of given (take (length text - 1) (drop 1 text))
after_by given text some mark =
    let there : (length text == 0) ≡ false = ne_eqb (length text) 0 (λ z. absurd (omega arith)) in
    let whole : take (length text - 1) (drop 1 text) ≡ drop 1 text = take_all (length text - 1) (drop 1 text) (omega (arith, length-drop 1 text)) in
    rw (there, mark, whole) refl
