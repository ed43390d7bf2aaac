-- The terms of the row queries so far.
use Rattle.std.proofs.Common.{take}
use Rattle.mapping_unfolding.specs.Unfoldings.{GivesHead}
use Rattle.relation_join.specs.Joins.{Gains}
use Rattle.query_images.proofs.collecting.add_row_queries.Given as goal

abbrev pub invariant-loop-unfolded : goal.invariant-loop-unfolded
invariant-loop-unfolded l = Gains (GivesHead l.tables (take l.unfolded-index l.list)) l.fn.out.items l.out.items
