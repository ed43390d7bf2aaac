-- The kinds of bytes that a run is made of.
use Rattle.std.specs.Prelude.{ℕ, Bool}
use Rattle.line_lexer.specs.declared.runs.Class.{Class}
use Rattle.line_lexer.specs.declared.runs.Class.TheVariants.{Blank, InWord, Digit, Unquoted}
use Rattle.line_lexer.specs.Shapes.{is_digit, is_in_word, is_unquoted}
use Rattle.line_lexer.specs.Tokens.{is_blank}

-- the test of the bytes of a class
abbrev pub passes : Class → ℕ → Bool
passes Blank = is_blank
passes InWord = is_in_word
passes Digit = is_digit
passes Unquoted = is_unquoted
