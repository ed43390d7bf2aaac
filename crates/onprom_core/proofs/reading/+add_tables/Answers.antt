use Rattle.onprom_core.proofs.Walks.{adds_at}
use Rattle.onprom_core.proofs.reading.+add_tables.Goals as goal

pub returns-clause-told : goal.returns-clause-told
returns-clause-told g t c =
    adds_at (g.S.Shelf.held c.args.shelf.now) c.args.before c.in_ok-table.total c.args.decls.now c.decl-item.result c.in_ok-table.table
    c.args.tables.now c.push.new.self c.add_tables.new.tables c.add_tables.result c.in-len1-up.len_at_least c.decl-item.is
    c.in_ok-table.ensures.told c.in_ok-push.ensures.ok (rw c.table_read.ensures.held at c.add_tables.ensures.told)
