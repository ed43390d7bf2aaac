use Rattle.onprom_core.proofs.Walks.{extracted_from}
use Rattle.onprom_core.proofs.commands.extract_from.Goals as goal

pub returns-clause-told : goal.returns-clause-told
returns-clause-told g c =
    extracted_from (g.S.Shelf.held c.args.shelf.now) c.args.project.now c.in_ok-tables.tables c.args.name.now c.in_ok-output.output
    c.in_ok-completed.ensures.told (rw c.tables.ensures at c.in_ok-tables.ensures.told) (rw c.items.ensures at c.in_ok-output.ensures.ends)
