-- How far a line was read.
use Rattle.std.specs.Prelude.{ℕ, List, length, drop}

-- a line, and the place up to which it was read
pub record Cursor : Type 0 where
  pub line : List ℕ
  pub place : ℕ

-- what is left of the line
abbrev pub rest_of : Cursor → List ℕ
rest_of cursor = drop cursor.place cursor.line

-- the same line, read to its end
abbrev pub at_end : Cursor → Cursor
at_end cursor = record { line = cursor.line; place = length cursor.line }
