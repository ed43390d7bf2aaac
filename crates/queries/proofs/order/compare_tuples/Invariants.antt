-- No difference before the place.
use Rattle.std.proofs.Common.{◌≤◌, ◌-◌, length}
use Rattle.queries.specs.Order.{term_cmp}
use Rattle.queries.proofs.Comparing.{Left}
use Rattle.queries.proofs.order.compare_tuples.Given as goal

abbrev pub invariant-loop-at : goal.invariant-loop-at
invariant-loop-at l = record { left : Left term_cmp l.ts l.us l.at; in_first : l.at ≤ length l.ts; in_second : l.at ≤ length l.us }

abbrev pub decreases-loop-at : goal.decreases-loop-at
decreases-loop-at l = length l.ts - l.at
