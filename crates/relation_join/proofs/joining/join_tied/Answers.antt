-- By `Gaining`.
use Rattle.std.proofs.Common.{[], sym, subst}
use Rattle.relation_join.specs.Joins.{Gains, IsJoined, IsRow, IsWith}
use Rattle.relation_join.proofs.Gaining.{In-get_or, gains_kept, gains_more, gains_none, only_gained}
use Rattle.relation_join.proofs.joining.join_tied.Goals as goal

pub loop-other-init : goal.loop-other-init
loop-other-init c =
    let sides = c.args.sides.now in
    subst (λ z. Gains (IsJoined sides.vars sides.more sides.head c.args.rows.now []) [] z) (sym c.new-out.ensures.items)
    (gains_none (λ other ts. IsWith sides.vars sides.more sides.head c.args.rows.now other ts) c.args.others.now [])

pub add_tied-requires-clause-other : goal.add_tied-requires-clause-other
add_tied-requires-clause-other c =
    let x = c.other-item.result in
    subst (IsRow c.args.sides.now.more) (sym c.items-in-loop-other.ensures) (c.requires.others x (In-get_or c.args.others.now c.loop-other.other-index x c.loop-other-test.true c.other-item.is))

pub loop-other-preserved : goal.loop-other-preserved
loop-other-preserved c =
    let sides = c.args.sides.now in
    let old = c.loop-other.out.items in
    let mid = c.add_tied.new.out.items in
    let new = c.trim.new.tuples.items in
    let P = IsWith sides.vars sides.more sides.head c.args.rows.now c.other-item.result in
    gains_more (λ other ts. IsWith sides.vars sides.more sides.head c.args.rows.now other ts) c.args.others.now c.loop-other.other-index c.other-item.result c.loop-other-test.true c.other-item.is
    [] old new c.loop-other.invariant
    (gains_kept P old mid new (subst (λ other. Gains (IsWith sides.vars sides.more sides.head c.args.rows.now other) old mid) c.items-in-loop-other.ensures c.in_ok-add_tied.ensures) c.in_ok-most.ensures.same)

pub returns : goal.returns
returns c =
    let sides = c.args.sides.now in
    only_gained (λ other ts. IsWith sides.vars sides.more sides.head c.args.rows.now other ts) c.args.others.now c.loop-other.other-index c.loop-other.out.items c.loop-other-test.false c.loop-other.invariant
