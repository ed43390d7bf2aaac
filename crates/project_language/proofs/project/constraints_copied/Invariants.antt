-- The copies so far.
use Rattle.std.proofs.Common.{◌≡◌, take}
use Rattle.project_language.proofs.project.constraints_copied.Given as goal

abbrev pub invariant-loop-constraint : goal.invariant-loop-constraint
invariant-loop-constraint l = l.copies ≡ take l.constraint-index l.constraints
