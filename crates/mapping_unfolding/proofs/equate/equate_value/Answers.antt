use Rattle.mapping_unfolding.proofs.Equating.{value_once}
use Rattle.mapping_unfolding.proofs.equate.equate_value.Goals as goal

pub returns-in_ok-copy : goal.returns-in_ok-copy
returns-in_ok-copy c =
    let e = c.one.ensures in
    value_once c.args.kind c.args.text.now c.args.other c.args.place c.one.result (c.same_kind.ensures.0 c.if-same_kind.true) (rw (c.in_ok-copy.ensures) at e)
