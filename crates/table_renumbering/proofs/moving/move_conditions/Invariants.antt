use Rattle.std.proofs.Common.{◌≡◌, map, take}
use Rattle.table_renumbering.specs.Renumbering.{moved_condition}
use Rattle.table_renumbering.proofs.moving.move_conditions.Given as goal

abbrev pub invariant-loop-condition : goal.invariant-loop-condition
invariant-loop-condition l = l.moved ≡ map (moved_condition l.places) (take l.condition-index l.conditions)
