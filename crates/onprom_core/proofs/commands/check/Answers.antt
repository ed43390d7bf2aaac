use Rattle.onprom_core.proofs.Walks.{check_from}
use Rattle.onprom_core.proofs.commands.check.Goals as goal

pub returns-clause-told : goal.returns-clause-told
returns-clause-told g c =
    check_from (g.S.Shelf.held c.args.shelf.now) c.args.name.now c.in_ok-project.project c.check_from.result
    c.in_ok-project.ensures.told (rw c.project_read.ensures.held at c.check_from.ensures.told)
