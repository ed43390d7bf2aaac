-- By `Gaining`.
use Rattle.std.proofs.Common.{sym, subst}
use Rattle.relation_join.specs.Joins.{Gains, IsPair, IsRow}
use Rattle.relation_join.proofs.Gaining.{In-get_or, gains_all, gains_more, gains_none}
use Rattle.relation_join.proofs.joining.add_all.Goals as goal

pub loop-row-init : goal.loop-row-init
loop-row-init c =
    let sides = c.args.sides.now in
    gains_none (λ row ts. IsPair sides.vars sides.more sides.head row c.args.other.now ts) c.args.rows.now c.args.out.now.items

pub add_pair-requires-clause-row : goal.add_pair-requires-clause-row
add_pair-requires-clause-row c =
    let x = c.row-item.result in
    subst (IsRow c.args.sides.now.vars) (sym c.items.ensures) (c.requires.rows x (In-get_or c.args.rows.now c.loop-row.row-index x c.loop-row-test.true c.row-item.is))

pub loop-row-preserved : goal.loop-row-preserved
loop-row-preserved c =
    let sides = c.args.sides.now in
    let old = c.loop-row.out.items in
    let new = c.add_pair.new.out.items in
    gains_more (λ row ts. IsPair sides.vars sides.more sides.head row c.args.other.now ts) c.args.rows.now c.loop-row.row-index c.row-item.result c.loop-row-test.true c.row-item.is
    c.args.out.now.items old new c.loop-row.invariant
    (subst (λ row. Gains (IsPair sides.vars sides.more sides.head row c.args.other.now) old new) c.items.ensures c.in_ok-add_pair.ensures)

pub returns : goal.returns
returns c =
    let sides = c.args.sides.now in
    gains_all (λ row ts. IsPair sides.vars sides.more sides.head row c.args.other.now ts) c.args.rows.now c.loop-row.row-index c.args.out.now.items c.loop-row.out.items c.loop-row-test.false c.loop-row.invariant
