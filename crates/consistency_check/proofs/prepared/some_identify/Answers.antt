-- None so far identifies.
use Rattle.std.proofs.Common.{sym, subst}
use Rattle.std.proofs.lemmas.List.{take_all}
use Rattle.vocabulary.specs.Lists.{In}
use Rattle.dllite_axioms.specs.declared.axioms.Constraint.TheVariants.{Identified}
use Rattle.consistency_check.proofs.Identified.{none_further}
use Rattle.consistency_check.proofs.prepared.some_identify.Goals as goal

pub loop-constraint-preserved : goal.loop-constraint-preserved
loop-constraint-preserved c =
    none_further c.args.constraints.now c.loop-constraint.constraint-index c.constraint-item.result c.loop-constraint-test.true c.constraint-item.is c.loop-constraint.invariant c.in_default.not-Identified

pub returns : goal.returns
returns c = λ e a us i. c.loop-constraint.invariant a us (subst (In (Identified a us)) (sym (take_all c.loop-constraint.constraint-index c.args.constraints.now c.loop-constraint-test.false)) i)
