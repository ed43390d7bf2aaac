use Rattle.std.proofs.Common.{◌≡◌, length, take}
use Rattle.owl_functional.specs.Lookup.{beside}
use Rattle.owl_functional.proofs.Tables.{AreRanges}
use Rattle.owl_functional.proofs.lookup.all_kinds.Given as goal

abbrev pub invariant-loop-axiom : goal.invariant-loop-axiom
invariant-loop-axiom l = record {
  long : length l.kinds.values ≡ length l.kinds.texts;
  ranges : AreRanges (beside l.kinds.texts l.kinds.values) (take l.axiom-index l.axioms);
}
