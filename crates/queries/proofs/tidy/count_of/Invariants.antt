-- The count so far, and of what is left.
use Rattle.std.proofs.Common.{◌≡◌, ◌+◌, ◌*◌, ◌≤◌, drop}
use Rattle.queries.specs.Occurrences.{count}
use Rattle.queries.proofs.tidy.count_of.Given as goal

abbrev pub invariant-loop-atom : goal.invariant-loop-atom
invariant-loop-atom l = record { sum : l.times + count l.v (drop l.atom-index l.atoms) ≡ count l.v l.atoms; small : l.times ≤ 2 * l.atom-index }
