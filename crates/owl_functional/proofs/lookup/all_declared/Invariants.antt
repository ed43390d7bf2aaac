use Rattle.std.proofs.Common.{take}
use Rattle.owl_functional.specs.Rules.{declares}
use Rattle.owl_functional.specs.Lookup.{AreTold}
use Rattle.owl_functional.proofs.lookup.all_declared.Given as goal

abbrev pub invariant-loop-axiom : goal.invariant-loop-axiom
invariant-loop-axiom l = AreTold declares (take l.axiom-index l.axioms) l.declared
