-- The atoms so far.
use Rattle.std.proofs.Common.{◌≡◌, map, take}
use Rattle.queries.specs.Normal.{blank_atom}
use Rattle.queries.proofs.tidy.blank_atoms.Given as goal

abbrev pub invariant-loop-atom : goal.invariant-loop-atom
invariant-loop-atom l = l.out.items ≡ map (blank_atom l.head l.atoms) (take l.atom-index l.atoms)
