use Rattle.std.proofs.Common.{subst}
use Rattle.std.proofs.lemmas.List.{take_all}
use Rattle.std.proofs.lemmas.List.Elements.{All-more}
use Rattle.std.specs.List.{All}
use Rattle.source_tables.specs.Tables.{HasKeys}
use Rattle.source_tables.proofs.table.have_keys.Goals as goal

pub loop-table-preserved : goal.loop-table-preserved
loop-table-preserved c =
    All-more HasKeys c.args.tables.now c.loop-table.table-index c.table-item.result c.loop-table-test.true c.loop-table.invariant (subst HasKeys c.table-item.is c.has_keys.ensures)

pub returns : goal.returns
returns c = subst (All HasKeys) (take_all c.loop-table.table-index c.args.tables.now c.loop-table-test.false) c.loop-table.invariant
