-- None so far is the axiom.
use Rattle.std.proofs.Common.{take}
use Rattle.vocabulary.specs.Lists.{In}
use Rattle.dllite_axioms.specs.declared.axioms.Axiom.TheVariants.{Sub}
use Rattle.dllite_axioms.specs.declared.axioms.Basic.TheVariants.{Has}
use Rattle.why_answers.proofs.bearing.axiom_of.Given as goal

abbrev pub invariant-loop-at : goal.invariant-loop-at
invariant-loop-at l = In (Sub l.step.left (Has l.step.link l.step.dir)) (take l.at l.axioms) → ⊥
