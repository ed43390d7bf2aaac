-- The variables so far.
use Rattle.std.proofs.Common.{◌≡◌, map, take}
use Rattle.queries.specs.declared.query.Arg.TheVariants.{Var}
use Rattle.query_images.proofs.cutting.part.Given as goal

abbrev pub invariant-loop-var : goal.invariant-loop-var
invariant-loop-var l = l.head ≡ map Var (take l.var-index l.fn.vars)
