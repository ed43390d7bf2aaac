-- The constraints so far are within.
use Rattle.std.proofs.Common.{take}
use Rattle.vocabulary.specs.Lists.{In}
use Rattle.dllite_axioms.specs.declared.axioms.Constraint.{Constraint}
use Rattle.dllite_axioms.specs.Within.{IsConstraintWithin}
use Rattle.checking_tests.proofs.within.are_constraints_within.Given as goal

abbrev pub invariant-loop-constraint : goal.invariant-loop-constraint
invariant-loop-constraint l = (k : Constraint) → In k (take l.constraint-index l.constraints) → IsConstraintWithin 10 10 k
