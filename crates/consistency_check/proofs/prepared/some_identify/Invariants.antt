-- None so far identifies.
use Rattle.std.proofs.Common.{List, take}
use Rattle.vocabulary.specs.declared.ids.ClassId.{ClassId}
use Rattle.vocabulary.specs.declared.ids.LinkId.{LinkId}
use Rattle.vocabulary.specs.Lists.{In}
use Rattle.dllite_axioms.specs.declared.axioms.Constraint.TheVariants.{Identified}
use Rattle.consistency_check.proofs.prepared.some_identify.Given as goal

abbrev pub invariant-loop-constraint : goal.invariant-loop-constraint
invariant-loop-constraint l = (a : ClassId) (us : List LinkId) → In (Identified a us) (take l.constraint-index l.constraints) → ⊥
