use Rattle.onprom_core.proofs.Walks.{verify_from}
use Rattle.onprom_core.proofs.commands.verify.Goals as goal

pub returns-clause-told : goal.returns-clause-told
returns-clause-told g c =
    verify_from (g.S.Shelf.held c.args.shelf.now) c.args.name.now c.in_ok-project.project c.verify_from.result
    c.in_ok-project.ensures.told c.args.derivations.now (rw c.project_read.ensures.held at c.verify_from.ensures.told)
