use Rattle.onprom_core.proofs.Walks.{verified_from}
use Rattle.onprom_core.proofs.commands.verify_by.Goals as goal

pub returns-clause-told : goal.returns-clause-told
returns-clause-told g c =
    verified_from (g.S.Shelf.held c.args.shelf.now) c.args.project.now c.args.tables.now c.args.derivations.now c.in_ok-bytes.bytes c.in_ok-read.read c.in_ok-output.output
    c.in_ok-bytes.ensures.told (rw c.slice.ensures at c.in_ok-read.ensures.told) (rw c.items.ensures at c.in_ok-output.ensures.ends)
