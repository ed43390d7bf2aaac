-- The axioms so far are within.
use Rattle.std.proofs.Common.{take}
use Rattle.vocabulary.specs.Lists.{In}
use Rattle.dllite_axioms.specs.declared.axioms.Axiom.{Axiom}
use Rattle.dllite_axioms.specs.Within.{IsAxiomWithin}
use Rattle.checking_tests.proofs.within.are_within.Given as goal

abbrev pub invariant-loop-axiom : goal.invariant-loop-axiom
invariant-loop-axiom l = (a : Axiom) → In a (take l.axiom-index l.axioms) → IsAxiomWithin 10 10 a
