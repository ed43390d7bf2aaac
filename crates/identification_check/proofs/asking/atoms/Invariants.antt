use Rattle.std.proofs.Common.{◌≡◌, ◌∷◌, take}
use Rattle.queries.specs.declared.query.Atom.TheVariants.{InClass}
use Rattle.identification_check.specs.Asking.{value_atoms, var}
use Rattle.identification_check.proofs.asking.atoms.Given as goal

abbrev pub invariant-loop-at : goal.invariant-loop-at
invariant-loop-at l = l.atoms ≡ InClass l.fn.class (var 0) ∷ value_atoms 1 (take l.at l.links)
