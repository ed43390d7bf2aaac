-- The atoms that stayed so far, before those that stay of the rest.
use Rattle.std.proofs.Common.{◌≡◌, ◌++◌, drop}
use Rattle.queries.specs.Normal.{distinct}
use Rattle.queries.proofs.tidy.drop_repeated.Given as goal

abbrev pub invariant-loop-at : goal.invariant-loop-at
invariant-loop-at l = l.out.items ++ distinct (drop l.at l.atoms) ≡ distinct l.atoms
