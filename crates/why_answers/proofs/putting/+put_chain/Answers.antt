-- The first rule, and then the rest.
use Rattle.std.proofs.lemmas.Result.{IfOk-weaker}
use Rattle.why_answers.specs.Putting.{PutsChain}
use Rattle.why_answers.proofs.Puts.{chain_more, chain_none}
use Rattle.why_answers.proofs.putting.+put_chain.Goals as goal

pub returns-in_default : goal.returns-in_default
returns-in_default t c = chain_none c.args.chain.now c.args.from c.args.steps.now c.in_default.ensures.cases

pub returns : goal.returns
returns t c =
    IfOk-weaker c.put_chain.result
    (λ n. PutsChain c.in-Some.rest.now c.in_ok-at.at c.put_step.new.steps c.put_chain.new.steps n)
    (λ n. PutsChain c.args.chain.now c.args.from c.args.steps.now c.put_chain.new.steps n)
    (λ n h. chain_more c.args.chain.now c.in-Some.rest.now c.in-Some.number.now c.args.from c.in_ok-at.at n c.in_ok-axiom.axiom c.args.steps.now c.put_step.new.steps c.put_chain.new.steps c.in-Some.ensures.cases.0 c.in_ok-axiom.ensures c.in_ok-at.ensures h)
    c.put_chain.ensures
