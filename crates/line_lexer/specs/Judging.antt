-- How a line is judged: by the first rule that it breaks, the limits last.
use Rattle.std.specs.Prelude.{ℕ, ◌||◌, Bool, false, List, [], ◌∷◌, Option, Some, None, Result, Ok, Err, if◌then◌else◌, nat_lt, option_map}
use Rattle.std.specs.List.{list_any}
use Rattle.std.specs.Str.{bytes_eq}
use Rattle.line_lexer.specs.Tokens.{Seen}
use Rattle.line_lexer.specs.Faults.{limit_of}
use Rattle.line_lexer.specs.declared.fault.LineFault.{LineFault}
use Rattle.line_lexer.specs.declared.fault.LineFault.TheVariants.{Syntax, Limit}
use Rattle.line_lexer.specs.declared.fault.Counted.{Counted}

-- the first count that passes its number
abbrev pub first_passed : List (Counted × ℕ) → Option Counted
first_passed [] = None
first_passed (c ∷ cs) = if nat_lt (limit_of c.0) c.1 then Some c.0 else first_passed cs

-- the first rule that is broken, else the first count that passes its number
abbrev pub first_broken : List (Bool × LineFault) → List (Counted × ℕ) → Option LineFault
first_broken [] counts = option_map Limit (first_passed counts)
first_broken (rule ∷ rules) counts = if rule.0 then Some rule.1 else first_broken rules counts

-- what the line gives, or its fault
abbrev pub unless : {S : Type 0} → Option LineFault → S → Result S LineFault
unless None grown = Ok grown
unless (Some fault) grown = Err fault

-- tokens in no form are Syntax, and none say nothing
abbrev pub read_by : {S L : Type 0} → (List Seen → Option L) → (L → Option LineFault) → (L → S) → S → Option (List Seen) → Result S LineFault
read_by {S} {L} form broken grown s None = Err Syntax
read_by {S} {L} form broken grown s (Some []) = Ok s
read_by {S} {L} form broken grown s (Some (t ∷ ts)) = judged (form (t ∷ ts))
  where
    judged : Option L → Result S LineFault
    judged None = Err Syntax
    judged (Some line) = unless (broken line) (grown line)

-- a text stands twice
abbrev pub has_twice : List (List ℕ) → Bool
has_twice [] = false
has_twice (text ∷ texts) = list_any (bytes_eq text) texts || has_twice texts

-- the number, or 0 where there is none
abbrev pub or_zero : Option ℕ → ℕ
or_zero None = 0
or_zero (Some n) = n

-- the text, or the empty one where there is none
abbrev pub text_or_none : Option (List ℕ) → List ℕ
text_or_none None = []
text_or_none (Some text) = text
