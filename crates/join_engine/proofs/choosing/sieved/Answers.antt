use Rattle.join_engine.proofs.Ties.{sieved_serves}
use Rattle.join_engine.proofs.choosing.sieved.Goals as goal

pub returns : goal.returns
returns c = λ indexes. sieved_serves c.args.tables.now c.args.query.now c.args.depth c.table_of-table.result c.rows_of-count.result c.in_ok-rows.rows c.table_of-table.ensures c.requires c.rows_of-count.ensures c.in_ok-rows.ensures
