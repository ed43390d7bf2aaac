use Rattle.join_engine.proofs.Gaining.{none_behind, some_behind}
use Rattle.join_engine.proofs.finding.some_in_order.Goals as goal

pub returns-then-not-branch-clause-found : goal.returns-then-not-branch-clause-found
returns-then-not-branch-clause-found c = rw c.if-not-branch.true at c.in_ok-settle_parts.ensures

pub returns-then-not-branch-2-clause-found : goal.returns-then-not-branch-2-clause-found
returns-then-not-branch-2-clause-found c =
    let settled = rw c.if-not-branch.false at c.in_ok-settle_parts.ensures in
    none_behind c.args.tables.now c.args.query.now c.settle_parts.new.front.items c.find_behind.new.front.items settled.0 (rw c.if-not-branch-2.true at c.in_ok-find_behind.ensures)

pub returns-clause-found : goal.returns-clause-found
returns-clause-found c =
    let settled = rw c.if-not-branch.false at c.in_ok-settle_parts.ensures in
    some_behind c.args.tables.now c.args.query.now c.settle_parts.new.front.items c.find_behind.new.front.items c.from_vec.result settled.0 (rw c.if-not-branch-2.false at c.in_ok-find_behind.ensures) c.from_vec.ensures

pub settle_parts-requires-clause-planned : goal.settle_parts-requires-clause-planned
settle_parts-requires-clause-planned c = c.plan_by-plan.ensures c.args.tables.now c.args.query.now.query c.in_ok-choices.ensures.choices

pub find_behind-requires-clause-planned : goal.find_behind-requires-clause-planned
find_behind-requires-clause-planned c = c.plan_by-plan.ensures c.args.tables.now c.args.query.now.query c.in_ok-choices.ensures.choices
