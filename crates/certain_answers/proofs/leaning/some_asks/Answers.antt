-- By `Keeping`.
use Rattle.certain_answers.proofs.Keeping.{listed}
use Rattle.certain_answers.proofs.leaning.some_asks.Goals as goal

pub returns-then-asks : goal.returns-then-asks
returns-then-asks c = λ yes. (c.atom-item.result, listed c.args.atoms.now c.loop-atom.atom-index c.atom-item.result c.loop-atom-test.true c.atom-item.is, c.asks.ensures c.if-asks.true)
