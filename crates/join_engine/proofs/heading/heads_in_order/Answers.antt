use Rattle.std.proofs.Common.{arith}
use Rattle.join_engine.proofs.Gaining.{none_walked, walked}
use Rattle.join_engine.proofs.heading.heads_in_order.Goals as goal

pub returns-then-not-branch-clause-heads : goal.returns-then-not-branch-clause-heads
returns-then-not-branch-clause-heads c = none_walked c.args.tables.now c.args.query.now c.new-tuples.result (rw c.if-not-branch.true at c.in_ok-settle_parts.ensures) c.new-tuples.ensures

pub walk-requires-clause-end : goal.walk-requires-clause-end
walk-requires-clause-end c =
    let settled = rw c.if-not-branch.false at c.in_ok-settle_parts.ensures in
    let within = settled.0.within in
    omega (arith, within, c.head_end.ensures.most, c.len.ensures, c.max-end.ensures)

pub returns-clause-heads : goal.returns-clause-heads
returns-clause-heads c =
    let settled = rw c.if-not-branch.false at c.in_ok-settle_parts.ensures in
    walked c.args.tables.now c.args.query.now c.head_end.result c.max-end.result c.settle_parts.new.front.items c.new-tuples.result c.walk.new.found c.requires.fits settled.0 c.head_end.ensures.within (omega (arith, c.max-end.ensures)) c.new-tuples.ensures c.in_ok-walk.ensures.found

pub settle_parts-requires-clause-planned : goal.settle_parts-requires-clause-planned
settle_parts-requires-clause-planned c = c.plan_by-plan.ensures c.args.tables.now c.args.query.now.query c.in_ok-choices.ensures.choices

pub walk-requires-clause-planned : goal.walk-requires-clause-planned
walk-requires-clause-planned c = c.plan_by-plan.ensures c.args.tables.now c.args.query.now.query c.in_ok-choices.ensures.choices
