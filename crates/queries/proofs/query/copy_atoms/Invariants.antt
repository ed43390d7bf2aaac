-- The copies so far.
use Rattle.std.proofs.Common.{◌≡◌, take}
use Rattle.queries.proofs.query.copy_atoms.Given as goal

abbrev pub invariant-loop-a : goal.invariant-loop-a
invariant-loop-a l = l.out.items ≡ take l.a-index l.atoms
