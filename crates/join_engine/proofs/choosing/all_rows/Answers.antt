use Rattle.join_engine.proofs.Ties.{count_is}
use Rattle.join_engine.proofs.choosing.all_rows.Goals as goal

pub returns : goal.returns
returns c = λ indexes. count_is c.args.tables.now c.args.query.now c.args.depth c.table_of-table.result c.rows_of.result c.table_of-table.ensures c.requires c.rows_of.ensures
