-- The steps at the atoms so far.
use Rattle.std.proofs.Common.{◌<◌, []}
use Rattle.fold_rewriting.specs.Found.{AreAdded}
use Rattle.fold_rewriting.proofs.steps.fold_steps.Given as goal

abbrev pub invariant-loop-at : goal.invariant-loop-at
invariant-loop-at l = AreAdded (λ s. s.atom < l.at) l.downs.axioms l.query [] l.steps
