-- The project so far, and the lines that are still to come.
use Rattle.std.proofs.Common.{◌≡◌, ◌+◌, length}
use Rattle.project_language.specs.Project.{read_lines}
use Rattle.project_language.specs.Sound.{IsSound}
use Rattle.project_language.proofs.reading.read_lines.Given as goal

abbrev pub invariant-loop-line : goal.invariant-loop-line
invariant-loop-line l = record {
  left : read_lines (l.fn.lines.number + 1) l.fn.begun l.fn.lines.lines ≡ read_lines (l.lines.number + 1) l.project l.lines.lines;
  sound : IsSound l.project;
}

abbrev pub decreases-loop-line : goal.decreases-loop-line
decreases-loop-line l = length l.lines.lines
