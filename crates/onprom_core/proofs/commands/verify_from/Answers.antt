use Rattle.onprom_core.proofs.Walks.{behind_tables}
use Rattle.onprom_core.proofs.commands.verify_from.Goals as goal

pub returns-clause-told : goal.returns-clause-told
returns-clause-told g c =
    behind_tables (g.S.Shelf.held c.args.shelf.now) c.args.project.now c.in_ok-tables.tables c.args.derivations.now c.verify_by.result
    (rw c.tables.ensures at c.in_ok-tables.ensures.told) (rw (c.tables_read.ensures.held, c.items.ensures) at c.verify_by.ensures.told)
