-- The atoms so far without those of the variable.
use Rattle.std.proofs.Common.{◌≡◌, take}
use Rattle.fold_rewriting.specs.Cutting.{without}
use Rattle.fold_rewriting.proofs.cutting.without.Given as goal

abbrev pub invariant-loop-atom : goal.invariant-loop-atom
invariant-loop-atom l = l.out.items ≡ without l.v (take l.atom-index l.atoms)
