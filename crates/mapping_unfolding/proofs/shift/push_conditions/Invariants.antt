use Rattle.std.proofs.Common.{◌≡◌, ◌++◌, map, take}
use Rattle.mapping_unfolding.specs.Shifts.{shifted_condition}
use Rattle.mapping_unfolding.proofs.shift.push_conditions.Given as goal

abbrev pub invariant-loop-condition : goal.invariant-loop-condition
invariant-loop-condition l = l.out ≡ l.fn.out ++ map (shifted_condition l.n) (take l.condition-index l.conditions)
