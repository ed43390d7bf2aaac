use Rattle.std.proofs.Common.{◌≡◌, take}
use Rattle.table_renumbering.specs.Renumbering.{picked_tables}
use Rattle.table_renumbering.proofs.renumbering.pick_tables.Given as goal

abbrev pub invariant-loop-number : goal.invariant-loop-number
invariant-loop-number l = l.picked ≡ picked_tables (take l.number-index l.order) l.tables
