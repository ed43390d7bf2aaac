-- A fact at a time.
use Rattle.std.proofs.Common.{subst, sym, arith}
use Rattle.negative_closure.proofs.Places.{In-at}
use Rattle.identification_check.specs.Chained.{IsDerivable}
use Rattle.identification_check.proofs.Behind.{most_take}
use Rattle.identification_check.proofs.chaining.chained.Goals as goal

pub push_fact-requires-clause-few : goal.push_fact-requires-clause-few
push_fact-requires-clause-few c =
    let few = c.loop-fact.invariant.few in
    let cost = most_take c.args.facts.now c.loop-fact.fact-index in
    omega (arith, few, cost)

pub push_fact-requires-clause-fact : goal.push_fact-requires-clause-fact
push_fact-requires-clause-fact c =
    subst (IsDerivable c.args.downs.now c.args.mappings.now c.args.tables.now) (sym c.fact-item.is) (c.requires.facts _ (In-at c.args.facts.now c.loop-fact.fact-index c.fact-item.result c.loop-fact-test.true))
