-- The atoms so far.
use Rattle.std.proofs.Common.{◌≡◌, map, take}
use Rattle.queries.specs.Unifying.{changed_both_atom}
use Rattle.queries.proofs.unify.Union.on_atoms.Given as goal

abbrev pub invariant-loop-a : goal.invariant-loop-a
invariant-loop-a l = l.out.items ≡ map (changed_both_atom l.self) (take l.a-index l.atoms)
