-- The copies so far.
use Rattle.std.proofs.Common.{◌≡◌, take}
use Rattle.queries.proofs.query.copy_args.Given as goal

abbrev pub invariant-loop-x : goal.invariant-loop-x
invariant-loop-x l = l.out.items ≡ take l.x-index l.args
