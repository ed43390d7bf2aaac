use Rattle.std.proofs.Common.{◌≡◌, take}
use Rattle.source_tables.proofs.decl.copy_key.Given as goal

abbrev pub invariant-loop-column : goal.invariant-loop-column
invariant-loop-column l = l.copies ≡ take l.column-index l.fn.key
