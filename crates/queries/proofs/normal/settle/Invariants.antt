-- What is left settles to the same.
use Rattle.std.proofs.Common.{◌≡◌, ◌<◌, ◌^◌, length}
use Rattle.queries.specs.Normal.{settled}
use Rattle.queries.proofs.normal.settle.Given as goal

abbrev pub invariant-loop-current : goal.invariant-loop-current
invariant-loop-current l = record { same : settled l.head l.current.items ≡ settled l.head l.fn.atoms; small : length l.current.items < 2 ^ 32 }

abbrev pub decreases-loop-current : goal.decreases-loop-current
decreases-loop-current l = length l.current.items
