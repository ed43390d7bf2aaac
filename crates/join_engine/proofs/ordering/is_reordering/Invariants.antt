use Rattle.std.proofs.Common.{◌<◌, ℕ}
use Rattle.join_engine.specs.Orders.{AgreeAt}
use Rattle.join_engine.proofs.ordering.is_reordering.Given as goal

abbrev pub invariant-loop-table : goal.invariant-loop-table
invariant-loop-table l = (k : ℕ) → k < l.table → AgreeAt l.order l.places k
