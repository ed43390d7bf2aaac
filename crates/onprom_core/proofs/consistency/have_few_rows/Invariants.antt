use Rattle.std.proofs.Common.{◌≤◌, length, take}
use Rattle.std.specs.List.{All}
use Rattle.onprom_core.proofs.consistency.have_few_rows.Given as goal

abbrev pub invariant-loop-table : goal.invariant-loop-table
invariant-loop-table l = All (λ t. length t.rows ≤ 1_000_000) (take l.table-index l.tables)
