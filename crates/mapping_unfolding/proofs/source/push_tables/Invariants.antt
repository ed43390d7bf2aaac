use Rattle.std.proofs.Common.{◌≡◌, ◌++◌, take}
use Rattle.mapping_unfolding.proofs.source.push_tables.Given as goal

abbrev pub invariant-loop-table : goal.invariant-loop-table
invariant-loop-table l = l.out ≡ l.fn.out ++ take l.table-index l.tables
