use Rattle.std.proofs.Common.{◌∙◌, subst, inl, inr}
use Rattle.negative_closure.proofs.Spreading.{in_taken}
use Rattle.mapping_facts.specs.declared.mapping.Mapping.{Mapping}
use Rattle.mapping_facts.specs.Within.{AreTargetsWithin}
use Rattle.checking_tests.proofs.within.are_targets_within.Goals as goal

pub loop-mapping-preserved : goal.loop-mapping-preserved
loop-mapping-preserved c = λ n m. elim (in_taken c.args.mappings.now c.loop-mapping.mapping-index c.mapping-item.result c.loop-mapping-test.true m) [
  | inl h ↦ c.loop-mapping.invariant n h
  | inr e ↦ subst (λ (n : Mapping). AreTargetsWithin 10 10 n.targets) (c.mapping-item.is ∙ e) (subst (AreTargetsWithin 10 10) c.items.ensures (c.are_all_within.ensures c.if-not-are_all_within.false))
]
