-- A token ends behind an ASCII byte, so the text may be cut there.
use Rattle.std.proofs.Common.{◌≡◌, ◌<◌, ◌≤◌, ◌-◌, ◌+◌, ℕ, zero, suc, Bool, true, false, cond, List, [], ◌∷◌, ◌++◌, Option, Some, None, length, get_or, refl, arith, IsUtf8, ◌&&◌, ◌||◌, nat_lt, not, take, drop, ◌==◌}
use lib.Utf8
use Rattle.std.specs.List.{prefix_len, list_any}
use Rattle.std.specs.Str.{IsCharBoundary, chars}
use Rattle.std.specs.Char.{is_control}
use Rattle.std.proofs.lemmas.Str.{IsCharBoundary-after_ascii, IsCharBoundary-before_ascii, IsCharBoundary-start, IsCharBoundary-end, IsCharBoundary-past_char, IsCharBoundary-from_rest}
use Rattle.std.proofs.lemmas.List.Sums.{prefix_len_passes, prefix_len-le-length, prefix_len_stops}
use Rattle.std.proofs.lemmas.Bool.Decides.{nat_tests}
use Rattle.line_lexer.specs.declared.shape.Shape.{Shape}
use Rattle.line_lexer.specs.declared.shape.Shape.TheVariants.{Quoted, Sign}
use Rattle.line_lexer.specs.Shapes.{is_in_word, begins_word, is_digit, is_unquoted}
use Rattle.line_lexer.specs.Lines.{mark}
use Rattle.line_lexer.specs.Tokens.{is_blank, token_front, token_at, quoted_len, pair_len, dots_len, is_short_sign, shaped}

pub record Ends (line : List ℕ) (n : ℕ) : Type 0 where
  pub positive : 0 < n
  pub within : n ≤ length line
  pub ascii : get_or line (n - 1) 0 < 128

pub blank_ascii : (b : ℕ) → is_blank b ≡ true → b < 128
blank_ascii b h = grind (arith, nat_tests, h)

pub digit_ascii : (b : ℕ) → is_digit b ≡ true → b < 128
digit_ascii b h = grind (arith, nat_tests, h)

pub begins_ascii : (b : ℕ) → begins_word b ≡ true → b < 128
begins_ascii b h = grind (arith, nat_tests, h)

pub word_ascii : (b : ℕ) → is_in_word b ≡ true → b < 128
word_ascii b h = grind (arith, nat_tests, h)

pub short_ascii : (b : ℕ) → is_short_sign b ≡ true → b < 128
short_ascii b h = grind (arith, nat_tests, h)

abbrev IfEnds : List ℕ → Option (Shape × ℕ) → Type 0
IfEnds line None = Unit {0}
IfEnds line (Some found) = Ends line found.1

either : {A : Type 0} (P : A → Type 0) (t : Bool) (x y : A) → (t ≡ true → P x) → (t ≡ false → P y) → P (cond t x y)
either P true x y first second = first refl
either P false x y first second = second refl

run_ends : (p : ℕ → Bool) → ((x : ℕ) → p x ≡ true → x < 128) → (b : ℕ) (rest : List ℕ) → b < 128 → Ends (b ∷ rest) (prefix_len p rest + 1)
run_ends p ascii b rest low = record {
  positive = omega arith;
  within = let bound = prefix_len-le-length p rest in omega arith;
  ascii = let same : prefix_len p rest + 1 - 1 ≡ prefix_len p rest = omega arith in
      rw same (at (prefix_len p rest) (omega arith));
}
  where
    at : (n : ℕ) → n ≤ prefix_len p rest → get_or (b ∷ rest) n 0 < 128
    at zero le = low
    at (suc k) le = ascii (get_or rest k 0) (prefix_len_passes p rest k 0 (omega arith))

unquoted_stops : (x : ℕ) → is_unquoted x ≡ false → x < 128
unquoted_stops x h = grind (arith, nat_tests, h)

quoted_ends : (b : ℕ) (rest : List ℕ) → IfEnds (b ∷ rest) (shaped Quoted (quoted_len rest))
quoted_ends b rest =
    let inside = prefix_len is_unquoted rest in
    either (λ o. IfEnds (b ∷ rest) (shaped Quoted o)) (nat_lt inside (length rest) && not (list_any is_control (chars (take inside rest)))) _ _
    (λ yes.
    let short : inside < length rest = grind (arith, nat_tests, yes) in
    let same : inside + 2 - 1 ≡ suc inside = omega arith in
    record { positive = omega arith; within = omega arith; ascii = rw same (unquoted_stops (get_or rest inside 0) (prefix_len_stops is_unquoted rest 0 short)) })
    (λ no. tt)

pair_ends : (b : ℕ) (rest : List ℕ) → IfEnds (b ∷ rest) (shaped Sign (pair_len 62 rest))
pair_ends b [] = tt
pair_ends b (c ∷ rest) = either (λ o. IfEnds (b ∷ c ∷ rest) (shaped Sign o)) (c == 62) _ _
    (λ yes. record { positive = omega arith; within = omega arith; ascii = grind (arith, nat_tests, yes) })
    (λ no. tt)

one_ends : (b : ℕ) (rest : List ℕ) → b < 128 → Ends (b ∷ rest) 1
one_ends b rest low = record { positive = omega arith; within = omega arith; ascii = low }

dots_ends : (b : ℕ) (rest : List ℕ) → b < 128 → Ends (b ∷ rest) (dots_len rest)
dots_ends b [] low = one_ends b [] low
dots_ends b (c ∷ rest) low = either (λ n. Ends (b ∷ c ∷ rest) n) (c == 46) _ _
    (λ yes. record { positive = omega arith; within = omega arith; ascii = grind (arith, nat_tests, yes) })
    (λ no. one_ends b (c ∷ rest) low)

front_ends : (b : ℕ) (rest : List ℕ) → IfEnds (b ∷ rest) (token_front b rest)
unfolding token_front
front_ends b rest =
    either (IfEnds (b ∷ rest)) (begins_word b) _ _ (λ yes. run_ends is_in_word word_ascii b rest (begins_ascii b yes))
    (λ _. either (IfEnds (b ∷ rest)) (is_digit b) _ _ (λ yes. run_ends is_digit digit_ascii b rest (digit_ascii b yes))
    (λ _. either (IfEnds (b ∷ rest)) (b == 34) _ _ (λ yes. quoted_ends b rest)
    (λ _. either (IfEnds (b ∷ rest)) (is_short_sign b) _ _ (λ yes. one_ends b rest (short_ascii b yes))
    (λ _. either (IfEnds (b ∷ rest)) (b == 46) _ _ (λ yes. dots_ends b rest (grind (arith, nat_tests, yes)))
    (λ _. either (IfEnds (b ∷ rest)) ((b == 60) || (b == 45)) _ _ (λ yes. pair_ends b rest)
    (λ _. tt))))))

pub token_at-ends : (line : List ℕ) (shape : Shape) (n : ℕ) → token_at line ≡ Some (shape, n) → Ends line n
token_at-ends [] shape n e = absurd cc
token_at-ends (b ∷ rest) shape n e = rw e at (front_ends b rest)

pub token_boundary : (line : List ℕ) (shape : Shape) (n : ℕ) → IsUtf8 line → token_at line ≡ Some (shape, n) → IsCharBoundary line n
token_boundary line shape n utf8 e =
    let ends = token_at-ends line shape n e in
    let same : n - 1 + 1 ≡ n = omega (arith, ends.positive) in
    rw same at (IsCharBoundary-after_ascii line (n - 1) utf8 (omega (arith, ends.positive, ends.within)) ends.ascii)

pub blanks_boundary : (line : List ℕ) (n : ℕ) → n ≡ prefix_len is_blank line → IsUtf8 line → IsCharBoundary line n
blanks_boundary line zero e utf8 = IsCharBoundary-start line utf8
blanks_boundary line (suc k) e utf8 =
    let bound = prefix_len-le-length is_blank line in
    let ascii : get_or line k 0 < 128 = blank_ascii (get_or line k 0) (prefix_len_passes is_blank line k 0 (omega arith)) in
    let same : k + 1 ≡ suc k = omega arith in
    rw same at (IsCharBoundary-after_ascii line k utf8 (omega arith) ascii)

pub quote_boundary : (line rest : List ℕ) (b : ℕ) → line ≡ b ∷ rest → b < 128 → IsUtf8 line → IsCharBoundary line 1
quote_boundary line rest b e low utf8 = IsCharBoundary-after_ascii line 0 utf8 (rw e (omega arith)) (rw e low)

pub carriage_boundary : (line : List ℕ) (i : ℕ) → i < length line → get_or line i 0 ≡ 13 → IsCharBoundary line i
carriage_boundary line i lt e = IsCharBoundary-before_ascii line i lt (rw e (omega arith))

pub unquoted_boundary : (rest : List ℕ) (n : ℕ) → n ≡ prefix_len is_unquoted rest → n < length rest → IsCharBoundary rest n
unquoted_boundary rest n e lt = IsCharBoundary-before_ascii rest n lt (unquoted_stops (get_or rest n 0) (rw (← e) at (prefix_len_stops is_unquoted rest 0 (rw (← e) lt))))

pub mark_boundary : (text rest : List ℕ) → text ≡ mark ++ rest → IsUtf8 text → IsCharBoundary text 3
unfolding lib.Utf8.encode
mark_boundary text rest e utf8 = IsCharBoundary-past_char text rest 0 0xFEFF (omega arith) utf8 e

pub start_boundary : (line : List ℕ) → IsUtf8 line → IsCharBoundary line 0
start_boundary line utf8 = IsCharBoundary-start line utf8

pub end_boundary : (line : List ℕ) → IsCharBoundary line (length line)
end_boundary line = IsCharBoundary-end line

pub rest_boundary : (line rest : List ℕ) (place n : ℕ) → rest ≡ drop place line → IsCharBoundary line place → IsCharBoundary rest n → IsCharBoundary line (place + n)
rest_boundary line rest place n e at cut = IsCharBoundary-from_rest line place n at.0 (rw (← e) cut)
