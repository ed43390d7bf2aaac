-- Not the last of them either.
use Rattle.why_answers.proofs.Births.{none_further}
use Rattle.why_answers.proofs.bearing.axiom_of.Goals as goal

pub loop-at-preserved : goal.loop-at-preserved
loop-at-preserved c = none_further c.args.axioms.now c.loop-at.at _ _ c.is_birth.result c.loop-at-test.true c.loop-at.invariant c.is_birth.ensures c.if-is_birth.false
