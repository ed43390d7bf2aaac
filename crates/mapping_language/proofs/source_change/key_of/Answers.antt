use Rattle.std.proofs.Common.{option_map}
use Rattle.source_tables.specs.Tables.{col}
use Rattle.mapping_language.specs.Tables.{column_number}
use Rattle.mapping_language.proofs.Lists.{kept_push}
use Rattle.mapping_language.proofs.source_change.key_of.Goals as goal

pub loop-column-preserved : goal.loop-column-preserved
loop-column-preserved c = kept_push (λ t. t.now) (λ name. option_map col (column_number c.args.table.now name)) c.args.columns.now c.loop-column.column-index _ _ _ c.loop-column-test.true c.loop-column.invariant (c.in_ok-push_number.ensures)
