-- The count so far, and of what is left.
use Rattle.std.proofs.Common.{◌≡◌, ◌+◌, ◌≤◌, drop}
use Rattle.queries.specs.Occurrences.{head_count}
use Rattle.queries.proofs.tidy.head_count_of.Given as goal

abbrev pub invariant-loop-x : goal.invariant-loop-x
invariant-loop-x l = record { sum : l.times + head_count l.v (drop l.x-index l.head) ≡ head_count l.v l.head; small : l.times ≤ l.x-index }
