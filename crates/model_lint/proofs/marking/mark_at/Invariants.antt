-- No mark so far is of the basic.
use Rattle.std.proofs.Common.{ℕ, take}
use Rattle.vocabulary.specs.Lists.{In}
use Rattle.model_lint.proofs.marking.mark_at.Given as goal

abbrev pub invariant-loop-mark : goal.invariant-loop-mark
invariant-loop-mark l = (n : ℕ) → In (l.basic, n) (take l.mark-index l.marks) → ⊥
