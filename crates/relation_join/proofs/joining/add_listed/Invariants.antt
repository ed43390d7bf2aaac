-- The tuples of the numbers so far.
use Rattle.std.proofs.Common.{take}
use Rattle.relation_join.specs.Joins.{Gains, IsListed}
use Rattle.relation_join.proofs.joining.add_listed.Given as goal

abbrev pub invariant-loop-number : goal.invariant-loop-number
invariant-loop-number l = Gains (IsListed l.sides.vars l.sides.more l.sides.head l.rows (take l.number-index l.numbers) l.other) l.fn.out.items l.out.items
