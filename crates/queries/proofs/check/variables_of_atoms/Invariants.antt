-- The variables so far, and those that are left.
use Rattle.std.proofs.Common.{◌≡◌, ◌+◌, ◌*◌, ◌≤◌, drop}
use Rattle.queries.specs.Checking.{args_of, different}
use Rattle.queries.proofs.check.variables_of_atoms.Given as goal

abbrev pub invariant-loop-at : goal.invariant-loop-at
invariant-loop-at l = record { sum : l.found + different (args_of (drop l.at l.atoms)) ≡ different (args_of l.atoms); small : l.found ≤ 2 * l.at }
