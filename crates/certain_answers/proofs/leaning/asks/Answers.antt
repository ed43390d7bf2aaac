-- By `Keeping`.
use Rattle.certain_answers.proofs.Keeping.{first_asks, second_asks}
use Rattle.certain_answers.proofs.leaning.asks.Goals as goal

pub returns-then-asks_at : goal.returns-then-asks_at
returns-then-asks_at c = λ yes. first_asks c.args.atom.now c.in-Linked.link c.in-Linked.x c.in-Linked.y c.args.arg.now c.args.class c.in-Linked.is (c.asks_at.ensures yes)

pub returns-else-asks_at : goal.returns-else-asks_at
returns-else-asks_at c = λ yes. second_asks c.args.atom.now c.in-Linked.link c.in-Linked.x c.in-Linked.y c.args.arg.now c.args.class c.in-Linked.is (c.asks_at-else-asks_at.ensures yes)
