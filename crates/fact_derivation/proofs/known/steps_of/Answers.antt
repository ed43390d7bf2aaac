use Rattle.fact_derivation.proofs.Rules.{rule_pushed}
use Rattle.fact_derivation.proofs.known.steps_of.Goals as goal

pub loop-at-preserved : goal.loop-at-preserved
loop-at-preserved c = rule_pushed c.args.numbers.now c.loop-at.at _ c.args.step c.loop-at.steps c.push-in-loop-at.new.self c.loop-at-test.true c.loop-at.invariant c.in_ok-push-2.ensures.ok
