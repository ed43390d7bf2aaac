-- No line before has tokens.
use Rattle.std.proofs.Common.{◌≡◌, ◌+◌, length}
use Rattle.line_lexer.specs.Lines.{lines_of}
use Rattle.project_language.specs.Project.{open_lines}
use Rattle.project_language.proofs.reading.open_lines.Given as goal

abbrev pub invariant-loop-line : goal.invariant-loop-line
invariant-loop-line l = open_lines 1 (lines_of l.text) ≡ open_lines (l.lines.number + 1) l.lines.lines

abbrev pub decreases-loop-line : goal.decreases-loop-line
decreases-loop-line l = length l.lines.lines
