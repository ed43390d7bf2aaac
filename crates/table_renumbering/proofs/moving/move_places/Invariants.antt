use Rattle.std.proofs.Common.{◌≡◌, map, take}
use Rattle.table_renumbering.specs.Renumbering.{moved_place}
use Rattle.table_renumbering.proofs.moving.move_places.Given as goal

abbrev pub invariant-loop-place : goal.invariant-loop-place
invariant-loop-place l = l.moved ≡ map (moved_place l.places) (take l.place-index l.list)
