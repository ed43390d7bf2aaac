use Rattle.onprom_core.proofs.Asking.{behind_query}
use Rattle.onprom_core.proofs.querying.answer_from.Goals as goal

pub returns-clause-told : goal.returns-clause-told
returns-clause-told g c =
    behind_query c.args.project.now c.args.name.now c.in_ok-query.query.now c.in_ok-query.ensures.told
    (g.S.Shelf.held c.args.shelf.now) c.answer_by.result c.answer_by.ensures.told
