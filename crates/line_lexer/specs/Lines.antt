-- The lines of a text.
use Rattle.std.specs.Prelude.{◌≡◌, ℕ, ◌+◌, List, [], ◌∷◌, Option, Some, None, if◌then◌else◌, take, drop}
use Rattle.std.specs.Str.{bytes_eq}
use Rattle.std.specs.Str.Lines.{lines}
use Rattle.line_lexer.specs.declared.lines.Line.{Line}
use Rattle.line_lexer.specs.Left.{Left}

-- the byte order mark, U+FEFF in UTF-8
abbrev pub mark : List ℕ
mark = 0xEF ∷ 0xBB ∷ 0xBF ∷ []

-- a text less the byte order mark at its front, if there is one
abbrev pub unmarked : List ℕ → List ℕ
unmarked text = if bytes_eq (take 3 text) mark then drop 3 text else text

-- the lines of a text: the parts between line feeds, where each part before a line feed loses one carriage return at its end,
-- and an empty last part, behind the last line feed, is no line
abbrev pub lines_of : List ℕ → List (List ℕ)
lines_of text = lines (unmarked text)

-- what `next` answers by the lines that are still to come, and what is left: nothing of none, else the first with its number
abbrev pub IsNextLine : List (List ℕ) → Left → Left → Option Line → Type 0
IsNextLine [] old new None = new ≡ old
IsNextLine [] old new (Some line) = ⊥
IsNextLine (first ∷ rest) old new None = ⊥
IsNextLine (first ∷ rest) old new (Some line) = (line.number ≡ old.number + 1) × (line.text.now ≡ first)
    × (new ≡ record { number = old.number + 1; lines = rest })
