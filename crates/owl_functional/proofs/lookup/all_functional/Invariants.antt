use Rattle.std.proofs.Common.{take}
use Rattle.owl_functional.specs.Rules.{makes_functional}
use Rattle.owl_functional.specs.Lookup.{AreTold}
use Rattle.owl_functional.proofs.lookup.all_functional.Given as goal

abbrev pub invariant-loop-axiom : goal.invariant-loop-axiom
invariant-loop-axiom l = AreTold makes_functional (take l.axiom-index l.axioms) l.functional
