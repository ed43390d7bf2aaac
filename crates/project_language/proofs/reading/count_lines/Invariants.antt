-- The number of the last line, and those that are still to come.
use Rattle.std.proofs.Common.{◌≡◌, ◌+◌, length}
use Rattle.line_lexer.specs.Lines.{lines_of}
use Rattle.project_language.proofs.reading.count_lines.Given as goal

abbrev pub invariant-loop-line : goal.invariant-loop-line
invariant-loop-line l = record { count : l.count ≡ l.lines.number; all : l.lines.number + length l.lines.lines ≡ length (lines_of l.text) }

abbrev pub decreases-loop-line : goal.decreases-loop-line
decreases-loop-line l = length l.lines.lines
