-- The variables so far, and those that are left.
use Rattle.std.proofs.Common.{◌≡◌, ◌+◌, ◌≤◌, ◌++◌, drop}
use Rattle.queries.specs.Checking.{args_of, different}
use Rattle.queries.proofs.check.variables.Given as goal

abbrev pub invariant-loop-at : goal.invariant-loop-at
invariant-loop-at l = record { sum : l.found + different (drop l.at l.head ++ args_of l.atoms) ≡ different (l.head ++ args_of l.atoms); small : l.found ≤ l.at }
