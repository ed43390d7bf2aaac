use Rattle.std.proofs.Common.{take}
use Rattle.std.specs.List.{All}
use Rattle.source_tables.specs.Tables.{HasTexts}
use Rattle.source_tables.proofs.table.have_texts.Given as goal

abbrev pub invariant-loop-table : goal.invariant-loop-table
invariant-loop-table l = All HasTexts (take l.table-index l.tables)
