use Rattle.std.proofs.Common.{◌≤◌, ◌-◌, length}
use Rattle.log_assembly.specs.Found.{IsBehind}
use Rattle.log_assembly.proofs.lookup.first_near.Given as goal

abbrev pub invariant-loop-at : goal.invariant-loop-at
invariant-loop-at l = record { from : l.near ≤ l.at; behind : IsBehind l.term l.tuples l.at }

abbrev pub decreases-loop-at : goal.decreases-loop-at
decreases-loop-at l = length l.tuples - l.at
