-- The arguments so far.
use Rattle.std.proofs.Common.{◌≡◌, map, take}
use Rattle.queries.specs.declared.unify.Change.TheVariants.{Put}
use Rattle.queries.specs.Changes.{changed}
use Rattle.queries.proofs.replace.replace_in_args.Given as goal

abbrev pub invariant-loop-x : goal.invariant-loop-x
invariant-loop-x l = l.out.items ≡ map (changed (Put l.var l.by)) (take l.x-index l.args)
