-- The first step, and then the rest.
use Rattle.std.proofs.lemmas.Result.{IfOk-weaker}
use Rattle.why_answers.specs.Putting.{PutsBehind}
use Rattle.why_answers.proofs.Puts.{behind_more, behind_none}
use Rattle.why_answers.proofs.putting.+put_behind.Goals as goal

pub returns-in_default : goal.returns-in_default
returns-in_default t c = behind_none c.args.more.now c.args.from c.args.steps.now c.in_default.ensures.cases

pub returns : goal.returns
returns t c =
    IfOk-weaker c.put_behind.result
    (λ n. PutsBehind c.in-Some.rest.now c.in_ok-at.at c.put_step.new.steps c.put_behind.new.steps n)
    (λ n. PutsBehind c.args.more.now c.args.from c.args.steps.now c.put_behind.new.steps n)
    (λ n h. behind_more c.args.more.now c.in-Some.rest.now c.in-Some.step.now c.in_ok-step.step c.args.from c.in_ok-at.at n c.args.steps.now c.put_step.new.steps c.put_behind.new.steps c.in-Some.ensures.cases.0 c.in_ok-step.ensures c.in_ok-at.ensures h)
    c.put_behind.ensures
