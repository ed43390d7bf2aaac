use Rattle.std.proofs.Common.{◌∙◌, subst, inl, inr}
use Rattle.negative_closure.proofs.Spreading.{in_taken}
use Rattle.queries.specs.Occurrences.{KnownArg}
use Rattle.reasoning_tests.proofs.linting.are_args_known.Goals as goal

pub loop-x-preserved : goal.loop-x-preserved
loop-x-preserved c = λ x m. elim (in_taken _ _ c.x-item.result c.loop-x-test.true m) [
  | inl h ↦ c.loop-x.invariant x h
  | inr e ↦ subst KnownArg (c.x-item.is ∙ e) (c.is_known.ensures c.if-not-is_known.false)
]
