use Rattle.std.proofs.Common.{◌≡◌, ◌++◌, map, take}
use Rattle.mapping_facts.specs.declared.query.Condition.TheVariants.{NotNull}
use Rattle.mapping_unfolding.specs.Shifts.{shifted_condition}
use Rattle.mapping_unfolding.proofs.shift.push_not_nulls.Given as goal

abbrev pub invariant-loop-place : goal.invariant-loop-place
invariant-loop-place l = l.out ≡ l.fn.out ++ map (shifted_condition l.n) (map NotNull (take l.place-index l.places))
