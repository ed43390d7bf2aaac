-- The void elements so far.
use Rattle.model_lint.proofs.Found.{AreVoidsBelow}
use Rattle.model_lint.proofs.finding.voids.Given as goal

abbrev pub invariant-loop-number : goal.invariant-loop-number
invariant-loop-number l = AreVoidsBelow l.tbox l.classes l.number l.proofs
