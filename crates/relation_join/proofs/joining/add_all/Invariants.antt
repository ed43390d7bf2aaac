-- The tuples of the rows so far.
use Rattle.std.proofs.Common.{take}
use Rattle.relation_join.specs.Joins.{Gains, IsWith}
use Rattle.relation_join.proofs.joining.add_all.Given as goal

abbrev pub invariant-loop-row : goal.invariant-loop-row
invariant-loop-row l = Gains (IsWith l.sides.vars l.sides.more l.sides.head (take l.row-index l.rows) l.other) l.fn.out.items l.out.items
