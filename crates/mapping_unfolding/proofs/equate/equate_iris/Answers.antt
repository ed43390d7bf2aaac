use Rattle.mapping_unfolding.proofs.Equating.{holes_placed, iris_none, iris_some}
use Rattle.mapping_unfolding.proofs.equate.equate_iris.Goals as goal

pub met_conditions-requires : goal.met_conditions-requires
met_conditions-requires c =
    rw (c.items.ensures) (holes_placed c.args.a.now c.args.b.now c.args.ps.now c.args.qs.now c.requires.left c.requires.right c.in_ok-unify.field-0 c.in-When.meets c.in_ok-unify.ensures.exact c.in-When.is)

pub returns-in-Never : goal.returns-in-Never
returns-in-Never c = iris_none c.args.a.now c.args.b.now c.args.ps.now c.args.qs.now c.in_ok-unify.field-0 c.in_ok-unify.ensures.exact c.in-Never.is

pub returns-in_ok-conditions-in-When : goal.returns-in_ok-conditions-in-When
returns-in_ok-conditions-in-When c =
    let f = c.in_ok-conditions-in-When.ensures in
    iris_some c.args.a.now c.args.b.now c.args.ps.now c.args.qs.now c.requires.left c.requires.right c.in_ok-unify.field-0 c.in-When.meets c.in_ok-conditions-in-When.conditions c.in_ok-unify.ensures.exact c.in-When.is (rw (c.items.ensures) at f)
