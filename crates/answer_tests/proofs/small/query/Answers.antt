use Rattle.answer_tests.proofs.Queries.{query_few, query_known, query_stands}
use Rattle.answer_tests.proofs.small.query.Goals as goal

pub returns-clause-known : goal.returns-clause-known
returns-clause-known c = query_known c.args.first c.args.second c.in_ok-atoms.atoms c.requires.first c.requires.second c.in_ok-atoms.ensures

pub returns-clause-stands : goal.returns-clause-stands
returns-clause-stands c =
    let e = c.in_ok-push.ensures.ok in
    query_stands (record { 0 = 0 }) c.args.first _ c.in_ok-atoms.atoms c.push.new.self c.requires.stands c.in_ok-atoms.ensures (rw (c.new-head.ensures) at e)

pub returns-clause-few : goal.returns-clause-few
returns-clause-few c = query_few c.args.first c.args.second c.in_ok-atoms.atoms c.in_ok-atoms.ensures
