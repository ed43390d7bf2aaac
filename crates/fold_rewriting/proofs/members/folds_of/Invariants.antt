-- The folds so far, and those whose steps are not taken yet.
use Rattle.fold_rewriting.proofs.Working.{Working, work_left}
use Rattle.fold_rewriting.proofs.members.folds_of.Given as goal

abbrev pub invariant-loop-member : goal.invariant-loop-member
invariant-loop-member l = Working l.downs.axioms l.query l.work.found.items l.work.pending.items

abbrev pub decreases-loop-member : goal.decreases-loop-member
decreases-loop-member l = work_left l.work.found.items l.work.pending.items
