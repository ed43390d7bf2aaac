use Rattle.std.proofs.Common.{◌≡◌, map, take}
use Rattle.mapping_unfolding.specs.Shifts.{shifted_place}
use Rattle.mapping_unfolding.proofs.shift.shift_places.Given as goal

abbrev pub invariant-loop-place : goal.invariant-loop-place
invariant-loop-place l = l.shifted ≡ map (shifted_place l.n) (take l.place-index l.places)
