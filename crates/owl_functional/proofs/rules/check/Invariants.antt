use Rattle.std.proofs.Common.{◌≡◌, [], take, drop}
use Rattle.owl_functional.specs.Rules.{first_fault}
use Rattle.owl_functional.proofs.rules.check.Given as goal

abbrev pub invariant-loop-i : goal.invariant-loop-i
invariant-loop-i l = record {
  so : first_fault l.axioms [] l.axioms ≡ first_fault l.axioms (take l.i l.axioms) (drop l.i l.axioms);
  before : l.taken ≡ take l.i l.axioms;
}
