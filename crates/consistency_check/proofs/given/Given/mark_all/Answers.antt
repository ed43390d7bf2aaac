use Rattle.std.proofs.Common.{◌∙◌, subst, inl, inr}
use Rattle.negative_closure.proofs.Spreading.{in_taken}
use Rattle.consistency_check.specs.Given.{IsMarked}
use Rattle.consistency_check.proofs.given.Given.mark_all.Goals as goal

pub loop-target-preserved : goal.loop-target-preserved
loop-target-preserved c = record {
  marked = λ x m. elim (in_taken c.args.targets.now c.loop-target.target-index c.target-item.result c.loop-target-test.true m) [
    | inl h ↦ c.mark.ensures.kept x (c.loop-target.invariant.marked x h)
    | inr e ↦ subst (IsMarked c.mark.new.self) (c.target-item.is ∙ e) c.mark.ensures.marked
  ];
  kept = λ x m. c.mark.ensures.kept x (c.loop-target.invariant.kept x m);
}
