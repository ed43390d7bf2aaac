use Rattle.std.proofs.Common.{◌∙◌, sym, subst, inl, inr}
use Rattle.vocabulary.specs.Lists.{In}
use Rattle.negative_closure.proofs.Spreading.{in_taken}
use Rattle.consistency_check.proofs.given.Given.by.Goals as goal

pub loop-mapping-init : goal.loop-mapping-init
loop-mapping-init c = λ m i. elim i [ ]

pub loop-mapping-preserved : goal.loop-mapping-preserved
loop-mapping-preserved c = λ m i g j. elim (in_taken c.args.mappings.now c.loop-mapping.mapping-index c.mapping-item.result c.loop-mapping-test.true i) [
  | inl h ↦ c.mark_all.ensures.kept g (c.loop-mapping.invariant m h g j)
  | inr e ↦ c.mark_all.ensures.marked g (subst (In g) (sym c.items.ensures) (subst (λ z. In g z.targets) (sym (c.mapping-item.is ∙ e)) j))
]
