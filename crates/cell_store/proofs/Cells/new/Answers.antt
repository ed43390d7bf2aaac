use Rattle.std.proofs.Common.{refl, arith}
use Rattle.cell_store.specs.Stretches.{AreStretches, cells_from}
use Rattle.cell_store.proofs.Cells.new.Goals as goal

pub invariant_of-result : goal.invariant_of-result
unfolding AreStretches
invariant_of-result c = rw (c.new.ensures.bytes, c.new-2.ensures.items) (c.requires, omega arith, omega arith, refl)

pub returns-clause-empty : goal.returns-clause-empty
unfolding cells_from
returns-clause-empty c = rw (c.new.ensures.bytes, c.new-2.ensures.items) refl
