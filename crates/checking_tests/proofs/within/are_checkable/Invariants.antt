-- The constraints so far are checkable.
use Rattle.std.proofs.Common.{take}
use Rattle.vocabulary.specs.Lists.{In}
use Rattle.dllite_axioms.specs.declared.axioms.Constraint.{Constraint}
use Rattle.consistency_check.specs.Checkable.{IsCheckable}
use Rattle.checking_tests.proofs.within.are_checkable.Given as goal

abbrev pub invariant-loop-constraint : goal.invariant-loop-constraint
invariant-loop-constraint l = (k : Constraint) → In k (take l.constraint-index l.constraints) → IsCheckable l.axioms k
