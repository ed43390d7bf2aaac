-- The variable does not stand before the place.
use Rattle.std.proofs.Common.{◌≡◌, ◌-◌, length, drop}
use Rattle.relation_join.specs.Joins.{value_in}
use Rattle.relation_join.proofs.value.value_of.Given as goal

abbrev pub invariant-loop-at : goal.invariant-loop-at
invariant-loop-at l = value_in (drop l.at l.vars) (drop l.at l.row) l.var ≡ value_in l.vars l.row l.var

abbrev pub decreases-loop-at : goal.decreases-loop-at
decreases-loop-at l = length l.vars - l.at
