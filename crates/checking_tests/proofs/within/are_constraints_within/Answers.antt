use Rattle.std.proofs.Common.{◌∙◌, subst, inl, inr}
use Rattle.negative_closure.proofs.Spreading.{in_taken}
use Rattle.dllite_axioms.specs.Within.{IsConstraintWithin}
use Rattle.checking_tests.proofs.within.are_constraints_within.Goals as goal

pub loop-constraint-preserved : goal.loop-constraint-preserved
loop-constraint-preserved c = λ k m. elim (in_taken c.args.constraints.now c.loop-constraint.constraint-index c.constraint-item.result c.loop-constraint-test.true m) [
  | inl h ↦ c.loop-constraint.invariant k h
  | inr e ↦ subst (IsConstraintWithin 10 10) (c.constraint-item.is ∙ e) (c.is_constraint_within.ensures c.if-not-is_constraint_within.false)
]
