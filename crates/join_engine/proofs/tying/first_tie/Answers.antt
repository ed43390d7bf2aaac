use Rattle.join_engine.proofs.Ties.{item_in}
use Rattle.join_engine.proofs.tying.first_tie.Goals as goal

pub returns-in-Some : goal.returns-in-Some
returns-in-Some c =
    (c.condition-item.result, item_in c.args.conditions.now c.loop-condition.condition-index c.condition-item.result c.loop-condition-test.true c.condition-item.is, rw c.in-Some.is at c.tie_of.ensures)
