-- The steps by the births so far.
use Rattle.std.proofs.Common.{take}
use Rattle.fold_rewriting.specs.Found.{AreAdded}
use Rattle.fold_rewriting.proofs.Gathering.{BySome}
use Rattle.fold_rewriting.proofs.steps.push_steps_at.Given as goal

abbrev pub invariant-loop-birth : goal.invariant-loop-birth
invariant-loop-birth l = AreAdded (BySome l.at l.end (take l.birth-index l.birth-items)) l.downs.axioms l.query l.initial.steps l.steps
