-- The arguments so far.
use Rattle.std.proofs.Common.{◌≡◌, map, take}
use Rattle.queries.specs.Unifying.{changed_both}
use Rattle.queries.proofs.unify.Union.on_args.Given as goal

abbrev pub invariant-loop-x : goal.invariant-loop-x
invariant-loop-x l = l.out.items ≡ map (changed_both l.self) (take l.x-index l.args)
