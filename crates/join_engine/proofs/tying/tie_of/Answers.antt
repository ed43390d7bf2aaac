use Rattle.join_engine.proofs.Ties.{some_itself}
use Rattle.join_engine.proofs.tying.tie_of.Goals as goal

pub returns-in-Equal : goal.returns-in-Equal
returns-in-Equal c = rw c.in-Equal.is (some_itself _ c.equal_tie.result c.equal_tie.ensures)
