use Rattle.std.proofs.Common.{◌≡◌, take}
use Rattle.mapping_unfolding.specs.Equating.{text_conditions}
use Rattle.mapping_unfolding.proofs.equate.text_conditions.Given as goal

abbrev pub invariant-loop-i : goal.invariant-loop-i
invariant-loop-i l = l.conditions ≡ text_conditions (take l.i l.places) (take l.i l.texts)
