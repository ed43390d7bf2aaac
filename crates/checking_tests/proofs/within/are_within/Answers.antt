use Rattle.std.proofs.Common.{subst, inl, inr}
use Rattle.negative_closure.proofs.Spreading.{in_taken}
use Rattle.dllite_axioms.specs.Within.{IsAxiomWithin}
use Rattle.checking_tests.proofs.within.are_within.Goals as goal

pub loop-axiom-preserved : goal.loop-axiom-preserved
loop-axiom-preserved c = λ a m. elim (in_taken _ _ _ c.loop-axiom-test.true m) [
  | inl h ↦ c.loop-axiom.invariant a h
  | inr e ↦ subst (IsAxiomWithin 10 10) e (c.is_axiom_within.ensures c.if-not-is_axiom_within.false)
]
