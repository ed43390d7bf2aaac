use Rattle.std.proofs.Common.{take}
use Rattle.std.specs.List.{All}
use Rattle.source_tables.specs.Tables.{HasKeys}
use Rattle.source_tables.proofs.table.have_keys.Given as goal

abbrev pub invariant-loop-table : goal.invariant-loop-table
invariant-loop-table l = All HasKeys (take l.table-index l.tables)
