-- By `Gaining`.
use Rattle.std.proofs.Common.{get_or}
use Rattle.relation_join.specs.Joins.{IsNumbered}
use Rattle.relation_join.proofs.Gaining.{gains_all, gains_more, gains_none, get_or_any}
use Rattle.relation_join.proofs.joining.add_listed.Goals as goal

pub loop-number-init : goal.loop-number-init
loop-number-init c =
    let sides = c.args.sides.now in
    gains_none (λ n ts. IsNumbered sides.vars sides.more sides.head c.args.rows.now c.args.other.now n ts) c.args.numbers.now c.args.out.now.items

pub loop-number-preserved : goal.loop-number-preserved
loop-number-preserved c =
    let sides = c.args.sides.now in
    let numbers = c.args.numbers.now in
    let i = c.loop-number.number-index in
    let l = c.loop-number-test.true in
    let x = get_or numbers i 0 in
    gains_more (λ n ts. IsNumbered sides.vars sides.more sides.head c.args.rows.now c.args.other.now n ts) numbers i x l (get_or_any numbers i 0 x l)
    c.args.out.now.items c.loop-number.out.items c.add_numbered.new.out.items c.loop-number.invariant c.in_ok-add_numbered.ensures

pub returns : goal.returns
returns c =
    let sides = c.args.sides.now in
    gains_all (λ n ts. IsNumbered sides.vars sides.more sides.head c.args.rows.now c.args.other.now n ts) c.args.numbers.now c.loop-number.number-index c.args.out.now.items c.loop-number.out.items
    c.loop-number-test.false c.loop-number.invariant
