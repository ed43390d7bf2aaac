-- The atoms so far.
use Rattle.std.proofs.Common.{◌≡◌, map, take}
use Rattle.queries.specs.declared.unify.Change.TheVariants.{Put}
use Rattle.queries.specs.Changes.{changed_atom}
use Rattle.queries.proofs.replace.replace_in_atoms.Given as goal

abbrev pub invariant-loop-a : goal.invariant-loop-a
invariant-loop-a l = l.out.items ≡ map (changed_atom (Put l.var l.by)) (take l.a-index l.atoms)
