use Rattle.std.proofs.Common.{◌∙◌, subst, inl, inr}
use Rattle.negative_closure.proofs.Spreading.{in_taken}
use Rattle.mapping_facts.specs.Within.{IsTargetWithin}
use Rattle.checking_tests.proofs.within.are_all_within.Goals as goal

pub loop-target-preserved : goal.loop-target-preserved
loop-target-preserved c = λ g m. elim (in_taken c.args.targets.now c.loop-target.target-index c.target-item.result c.loop-target-test.true m) [
  | inl h ↦ c.loop-target.invariant g h
  | inr e ↦ subst (IsTargetWithin 10 10) (c.target-item.is ∙ e) (c.is_target_within.ensures c.if-not-is_target_within.false)
]
