use Rattle.std.proofs.Common.{◌+◌}
use Rattle.source_tables.specs.Loading.{row_at}
use Rattle.source_tables.specs.Tables.{cut_rows}
use Rattle.source_tables.proofs.KeyRows.{Numbered}
use Rattle.source_tables.proofs.key.number_keys.Given as goal

abbrev pub invariant-loop-number : goal.invariant-loop-number
invariant-loop-number l = Numbered l.fn.keys (cut_rows l.fn.row l.fn.width l.fn.cells.cells) (l.fn.row + 1) (row_at l.fn.width l.fn.row l.fn.cells.cells) l.number l.indexes
