-- By `Keeping`.
use Rattle.certain_answers.proofs.Keeping.{found}
use Rattle.certain_answers.proofs.leaning.has_end.Goals as goal

pub returns-then-is_end : goal.returns-then-is_end
returns-then-is_end c = λ yes. found c.args.basics.now c.loop-basic.basic-index _ _ c.loop-basic-test.true (c.is_end.ensures c.if-is_end.true)
