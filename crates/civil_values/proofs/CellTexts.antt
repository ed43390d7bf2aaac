-- Canonical texts are texts of cells, in ASCII.
use Rattle.std.proofs.Common.{◌≡◌, ◌∙◌, sym, refl, ap, subst, ℕ, zero, suc, ◌<◌, ◌≤◌, ◌==◌, ◌||◌, Bool, true, false, nat_lt, nat_le, ℤ, pos, negsuc, List, [], ◌∷◌, length, Some, arith, lit≤, FitsSigned, w64}
use Rattle.std.specs.List.{list_all}
use Rattle.std.specs.Str.{IsAscii, chars, all_ascii_digits}
use Rattle.std.specs.Char.{is_ascii_digit}
use Rattle.std.specs.Int.{is_in_range}
use Rattle.std.specs.Fmt.{decimal}
use Rattle.std.proofs.lemmas.Bool.{and_parts, and_from, or_left, or_right, le-leb, lt-ltb}
use Rattle.std.proofs.lemmas.Str.{chars-IsAscii}
use Rattle.std.proofs.lemmas.Fmt.{digits_decimal, decimal_nonempty}
use Rattle.jiff_core.specs.Calendar.{IsWithin}
use Rattle.jiff_core.proofs.CalendarLemmas.{days_in_month_bounds}
use Rattle.civil_values.specs.Times.{CivilDay, IsDayTo, utc_text, IsTimeText}
use Rattle.civil_values.specs.TimeReader.{time_canonical}
use Rattle.civil_values.specs.Numbers.{int_value, int_text, int_canonical}
use Rattle.civil_values.specs.Truth.{bool_value, bool_text, bool_canonical}
use Rattle.vocabulary.specs.Texts.{is_xml_char}
use Rattle.civil_values.specs.Texts.{is_cell_text, text_canonical}
use Rattle.civil_values.proofs.Digits.{digit_bounds, passed, some_same}
use Rattle.civil_values.proofs.Moments.{mapped}
use Rattle.civil_values.proofs.Numerals.{own, signed_value}
use Rattle.civil_values.proofs.TimeLaws.{canonical_is}

-- bytes from the space to the tilde
abbrev Printable : List ℕ → Type 0
Printable [] = Unit {0}
Printable (b ∷ bs) = (32 ≤ b) × (b ≤ 126) × Printable bs

printable_ascii : (text : List ℕ) → Printable text → IsAscii text
printable_ascii [] p i = omega arith
printable_ascii (b ∷ bs) p zero = let high = p.1 in omega arith
printable_ascii (b ∷ bs) p (suc i) = printable_ascii bs p.2 i

xml_char : (b : ℕ) → 32 ≤ b → b ≤ 126 → is_xml_char b ≡ true
xml_char b low high =
    let in_range = and_from (nat_le 0x20 b) (nat_le b 0xD7FF) (le-leb 0x20 b low) (le-leb b 0xD7FF (omega arith)) in
    or_left ((b == 0x9) || (b == 0xA) || (b == 0xD) || is_in_range 0x20 0xD7FF b || is_in_range 0xE000 0xFFFD b) (is_in_range 0x1_0000 0x10_FFFF b)
    (or_left ((b == 0x9) || (b == 0xA) || (b == 0xD) || is_in_range 0x20 0xD7FF b) (is_in_range 0xE000 0xFFFD b)
    (or_right ((b == 0x9) || (b == 0xA) || (b == 0xD)) (is_in_range 0x20 0xD7FF b) in_range))

printable_xml : (text : List ℕ) → Printable text → list_all is_xml_char text ≡ true
printable_xml [] p = refl
printable_xml (b ∷ bs) p = and_from (is_xml_char b) (list_all is_xml_char bs) (xml_char b p.0 p.1) (printable_xml bs p.2)

printable_cell : (text : List ℕ) → 0 < length text → Printable text → is_cell_text text ≡ true
printable_cell text some p =
    let all : list_all is_xml_char (chars text) ≡ true = ap (list_all is_xml_char) (chars-IsAscii text (printable_ascii text p)) ∙ printable_xml text p in
    and_from (nat_lt 0 (length text)) (list_all is_xml_char (chars text)) (lt-ltb 0 (length text) some) all

utc_printable : (date : CivilDay) (clock : ℕ) → IsDayTo 9999 date → clock < 86_400_000 → Printable (utc_text date clock)
utc_printable date clock h small =
    let y = h.year_in in let m = h.month_in in let d = h.day_in in
    let month = days_in_month_bounds (pos date.year) date.month in
    (omega arith, omega arith, (omega arith, omega arith, (omega arith, omega arith, (omega arith, omega arith, (lit≤ tt, lit≤ tt, (omega arith, omega arith, (omega arith, omega arith, (lit≤ tt, lit≤ tt, (omega arith, omega arith, (omega arith, omega arith, (lit≤ tt, lit≤ tt, (omega arith, omega arith, (omega arith, omega arith, (lit≤ tt, lit≤ tt, (omega arith, omega arith, (omega arith, omega arith, (lit≤ tt, lit≤ tt, (omega arith, omega arith, (omega arith, omega arith, (lit≤ tt, lit≤ tt, (omega arith, omega arith, (omega arith, omega arith, (omega arith, omega arith, (lit≤ tt, lit≤ tt, (lit≤ tt, lit≤ tt, (lit≤ tt, lit≤ tt, (lit≤ tt, lit≤ tt, (lit≤ tt, lit≤ tt, (lit≤ tt, lit≤ tt, tt)))))))))))))))))))))))))))))

time_printable : (ms : ℤ) (text : List ℕ) → IsTimeText ms text → Printable text
time_printable ms text h = subst Printable (sym h.spelled) (utc_printable h.date h.clock h.exists h.within)

pub time_ascii : (ms : ℤ) (text : List ℕ) → IsTimeText ms text → IsAscii text
time_ascii ms text h = printable_ascii text (time_printable ms text h)

pub time_cell : (given : ℤ) (text written : List ℕ) → IsWithin 840 given → time_canonical given text ≡ Some written → is_cell_text written ≡ true
time_cell given text written g e =
    let is = canonical_is given text written g e in
    let size = ap length is.2.spelled in
    printable_cell written (omega arith) (time_printable is.0 written is.2)

digits_printable : (text : List ℕ) → all_ascii_digits text ≡ true → Printable text
digits_printable [] e = tt
digits_printable (b ∷ bs) e =
    let both = and_parts (is_ascii_digit b) (all_ascii_digits bs) e in
    let range = digit_bounds b both.0 in
    (omega arith, omega arith, digits_printable bs both.1)

int_printable : (n : ℤ) → FitsSigned w64 n → Printable (int_text n) × (0 < length (int_text n))
int_printable (pos n) h =
    let s = h.sfits in
    (digits_printable (decimal n) (digits_decimal own n (omega arith)), decimal_nonempty n (omega arith))
int_printable (negsuc n) h =
    let s = h.sfits in
    ((lit≤ tt, lit≤ tt, digits_printable (decimal (suc n)) (digits_decimal own (suc n) (omega arith))), omega arith)

pub int_ascii : (n : ℤ) → FitsSigned w64 n → IsAscii (int_text n)
int_ascii n h = printable_ascii (int_text n) (int_printable n h).0

pub int_cell : (text written : List ℕ) → int_canonical text ≡ Some written → is_cell_text written ≡ true
int_cell text written e =
    let m = mapped int_text (int_value text) written (sym e) in
    let fits = signed_value text m.value m.was in
    let p = int_printable m.value fits in
    subst (λ (t : List ℕ). is_cell_text t ≡ true) m.gives (printable_cell (int_text m.value) p.1 p.0)

bool_text_cell : (b : Bool) → is_cell_text (bool_text b) ≡ true
unfolding chars
bool_text_cell true = refl
bool_text_cell false = refl

pub bool_cell : (text written : List ℕ) → bool_canonical text ≡ Some written → is_cell_text written ≡ true
bool_cell text written e =
    let m = mapped bool_text (bool_value text) written (sym e) in
    subst (λ (t : List ℕ). is_cell_text t ≡ true) m.gives (bool_text_cell m.value)

pub text_cell : (text written : List ℕ) → text_canonical text ≡ Some written → is_cell_text written ≡ true
text_cell text written e =
    let p = passed (is_cell_text text) (Some text) written e in
    subst (λ (t : List ℕ). is_cell_text t ≡ true) (some_same text written p.1) p.0
