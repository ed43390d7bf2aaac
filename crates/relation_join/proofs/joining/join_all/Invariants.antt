-- The tuples of the second list's rows so far.
use Rattle.std.proofs.Common.{[], take}
use Rattle.relation_join.specs.Joins.{Gains, IsJoined}
use Rattle.relation_join.proofs.joining.join_all.Given as goal

abbrev pub invariant-loop-other : goal.invariant-loop-other
invariant-loop-other l = Gains (IsJoined l.sides.vars l.sides.more l.sides.head l.rows (take l.other-index l.others)) [] l.out.items
