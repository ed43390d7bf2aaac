-- What quoted texts and numbers stand for.
use Rattle.std.proofs.Common.{◌≡◌, ◌<◌, ◌+◌, ◌-◌, ◌^◌, ℕ, suc, true, List, [], ◌∷◌, ◌++◌, Result, Ok, Err, length, refl, ap, ◌∙◌, arith, rules, take, drop, get_or, length-append, length-drop, IsUtf8}
use Rattle.std.specs.List.{list_all}
use Rattle.std.specs.Str.{IsCharBoundary}
use Rattle.std.specs.Str.Parse.{ParsesUnsigned}
use Rattle.std.specs.Option.{SomeIff}
use Rattle.std.specs.Result.{OkIff, result_ok}
use Rattle.std.proofs.Math.Seq.{get_or-append_seam}
use Rattle.std.proofs.lemmas.Str.{IsCharBoundary-after_ascii, IsCharBoundary-before_ascii}
use Rattle.std.proofs.lemmas.Str.Parse.{IsNumeralModel, numerals_by_fold, parse_digits}
use Rattle.line_lexer.specs.Shapes.{is_digit, is_number, is_quoted, inside, decimal, decimal_after}
use Rattle.line_lexer.proofs.Longest.{quoted_parts}

own : IsNumeralModel (λ ds. list_all is_digit ds ≡ true) decimal
own = numerals_by_fold _ (search rules) decimal_after (search rules)

number_digits : (text : List ℕ) → is_number text ≡ true → (list_all is_digit text ≡ true) × (0 < length text)
number_digits [] e = absurd cc
number_digits (b ∷ rest) e = (e, omega arith)

pub number_parses : {E : Type 0} (text : List ℕ) (r : Result ℕ E) → ParsesUnsigned 64 10 text r → is_number text ≡ true → SomeIff (result_ok r) (decimal text < 2 ^ 64) (decimal text)
number_parses {E = E} text r parses e = by r (parse_digits own 64 text r parses (number_digits text e).0)
  where
    by : (s : Result ℕ E) → OkIff s ((0 < length text) × (decimal text < 2 ^ 64)) (decimal text) → SomeIff (result_ok s) (decimal text < 2 ^ 64) (decimal text)
    by (Ok x) h = (h.0.1, h.1)
    by (Err e') h = λ small. h ((number_digits text e).1, small)

-- a quoted text may be cut behind its first quote and before its last
pub open_boundary : (text : List ℕ) → is_quoted text ≡ true → IsUtf8 text → IsCharBoundary text 1
open_boundary text e utf8 =
    let parts = quoted_parts text e in
    let len : length text ≡ suc (length (inside text ++ 34 ∷ [])) = ap length parts.0 in
    let first : get_or text 0 0 ≡ 34 = ap (λ t. get_or t 0 0) parts.0 in
    IsCharBoundary-after_ascii text 0 utf8 (omega arith) (omega arith)

pub close_boundary : (text rest : List ℕ) → is_quoted text ≡ true → rest ≡ drop 1 text → IsCharBoundary rest (length rest - 1)
close_boundary text rest e is =
    let parts = quoted_parts text e in
    let tail : rest ≡ inside text ++ 34 ∷ [] = is ∙ ap (drop 1) parts.0 in
    let len : length rest ≡ length (inside text) + 1 = ap length tail ∙ length-append (inside text) (34 ∷ []) in
    let place : length rest - 1 ≡ length (inside text) = omega arith in
    let last : get_or rest (length rest - 1) 0 ≡ 34 = rw (place, tail) (get_or-append_seam (inside text) 34 [] 0) in
    IsCharBoundary-before_ascii rest (length rest - 1) (omega arith) (omega arith)

pub inner_is : (text rest : List ℕ) → rest ≡ drop 1 text → take (length rest - 1) rest ≡ inside text
inner_is text rest is =
    let len : length rest - 1 ≡ length text - 2 = omega (arith, ap length is, length-drop 1 text) in
    rw (len, is) refl
