-- No neighbours so far are twins.
use Rattle.std.proofs.Common.{ℕ, ◌+◌, ◌<◌}
use Rattle.identification_check.specs.Members.{AreTwins}
use Rattle.identification_check.proofs.twins.place_of_twins.Given as goal

abbrev pub invariant-loop-at : goal.invariant-loop-at
invariant-loop-at l = (i : ℕ) → i + 1 < l.at → AreTwins l.n l.tuples i → ⊥
