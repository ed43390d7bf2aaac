-- By `Keeping`.
use Rattle.certain_answers.proofs.Keeping.{all_queries, next_all, none_all}
use Rattle.certain_answers.proofs.leaning.all_lean.Goals as goal

pub loop-query-init : goal.loop-query-init
loop-query-init c = none_all c.args.downs.now.axioms c.new-leans.result c.new-leans.ensures

pub loop-query-preserved : goal.loop-query-preserved
loop-query-preserved c =
    next_all c.args.downs.now.axioms c.args.queries.now c.loop-query.leans c.push.new.self c.loop-query.query-index c.query-item.result c.in_ok-lean.field-0
    c.loop-query-test.true c.query-item.is c.loop-query.invariant c.in_ok-lean.ensures c.in_ok-push.ensures.ok

pub returns : goal.returns
returns c = all_queries c.args.downs.now.axioms c.args.queries.now c.loop-query.leans c.loop-query.query-index c.loop-query-test.false c.loop-query.invariant
