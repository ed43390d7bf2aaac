-- No line before has tokens.
use Rattle.std.proofs.Common.{◌≡◌, ◌+◌, length}
use Rattle.project_language.specs.Project.{name_lines}
use Rattle.project_language.proofs.naming.name_lines.Given as goal

abbrev pub invariant-loop-line : goal.invariant-loop-line
invariant-loop-line l = name_lines (l.fn.lines.number + 1) l.fn.lines.lines ≡ name_lines (l.lines.number + 1) l.lines.lines

abbrev pub decreases-loop-line : goal.decreases-loop-line
decreases-loop-line l = length l.lines.lines
