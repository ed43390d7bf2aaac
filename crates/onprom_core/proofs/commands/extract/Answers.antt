use Rattle.onprom_core.proofs.Walks.{extract_from}
use Rattle.onprom_core.proofs.commands.extract.Goals as goal

pub returns-clause-told : goal.returns-clause-told
returns-clause-told g c =
    extract_from (g.S.Shelf.held c.args.shelf.now) c.args.name.now c.in_ok-project.project c.extract_from.result
    c.in_ok-project.ensures.told (rw c.project_read.ensures.held at c.extract_from.ensures.told)
