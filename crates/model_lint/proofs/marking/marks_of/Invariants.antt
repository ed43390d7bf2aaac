-- The marks of the constraints so far.
use Rattle.model_lint.specs.Marks.{AreMarks}
use Rattle.model_lint.proofs.marking.marks_of.Given as goal

abbrev pub invariant-loop-at : goal.invariant-loop-at
invariant-loop-at l = AreMarks l.downs.axioms l.constraints l.at l.marks
