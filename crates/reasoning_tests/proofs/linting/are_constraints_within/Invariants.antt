-- The constraints so far are within.
use Rattle.std.proofs.Common.{take}
use Rattle.vocabulary.specs.Lists.{In}
use Rattle.dllite_axioms.specs.declared.axioms.Constraint.{Constraint}
use Rattle.dllite_axioms.specs.Within.{IsConstraintWithin}
use Rattle.reasoning_tests.proofs.linting.are_constraints_within.Given as goal

abbrev pub invariant-loop-constraint : goal.invariant-loop-constraint
invariant-loop-constraint l = (c : Constraint) → In c (take l.constraint-index l.constraints) → IsConstraintWithin l.classes l.links c
