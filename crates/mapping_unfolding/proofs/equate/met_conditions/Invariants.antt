use Rattle.std.proofs.Common.{◌≡◌, map, take}
use Rattle.mapping_unfolding.specs.Equating.{met_condition}
use Rattle.mapping_unfolding.proofs.equate.met_conditions.Given as goal

abbrev pub invariant-loop-meet : goal.invariant-loop-meet
invariant-loop-meet l = l.conditions ≡ map (met_condition l.left l.right) (take l.meet-index l.meets)
