-- No difference before the place.
use Rattle.std.proofs.Common.{◌≤◌, ◌-◌, length}
use Rattle.queries.specs.Order.{arg_cmp}
use Rattle.queries.proofs.Comparing.{Left}
use Rattle.queries.proofs.order.compare_args.Given as goal

abbrev pub invariant-loop-at : goal.invariant-loop-at
invariant-loop-at l = record { left : Left arg_cmp l.xs l.ys l.at; in_first : l.at ≤ length l.xs; in_second : l.at ≤ length l.ys }

abbrev pub decreases-loop-at : goal.decreases-loop-at
decreases-loop-at l = length l.xs - l.at
