use Rattle.onprom_core.proofs.Asking.{answer_from}
use Rattle.onprom_core.proofs.querying.answer.Goals as goal

pub returns-clause-told : goal.returns-clause-told
returns-clause-told g c =
    answer_from (g.S.Shelf.held c.args.shelf.now) c.args.name.now c.in_ok-project.project c.args.query.now c.answer_from.result
    c.in_ok-project.ensures.told (rw c.project_read.ensures.held at c.answer_from.ensures.told)
