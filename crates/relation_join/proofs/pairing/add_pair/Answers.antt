-- By `Rows`.
use Rattle.std.proofs.Common.{◌≡◌, rules, refl, sym, ◌∙◌, true, false}
use Rattle.relation_join.proofs.Rows.{none_gained, pair_gained}
use Rattle.relation_join.proofs.pairing.add_pair.Goals as goal

pub returns-in_ok-push : goal.returns-in_ok-push
returns-in_ok-push c =
    let sides = c.args.sides.now in
    pair_gained sides.vars sides.more sides.head c.args.row.now c.args.other.now c.args.out.now.items c.requires.head (c.agree.ensures.0 c.if-agree.true) c.in_ok-head_of.field-0 c.in_ok-head_of.ensures c.push.new.self.items (search rules)

pub returns-else-agree : goal.returns-else-agree
returns-else-agree c =
    let sides = c.args.sides.now in
    none_gained sides.vars sides.more sides.head c.args.row.now c.args.other.now c.args.out.now.items
    (λ g. let q : false ≡ true = sym c.if-agree.false ∙ c.agree.ensures.1 g in search rules)
    c.args.out.now.items refl
