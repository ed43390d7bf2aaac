-- The variable is no place of the head so far.
use Rattle.std.proofs.Common.{◌≡◌, take}
use Rattle.queries.specs.declared.query.Arg.TheVariants.{Var}
use Rattle.query_images.proofs.Scanning.{NoneIs}
use Rattle.query_images.proofs.cutting.head_has.Given as goal

abbrev pub invariant-loop-arg : goal.invariant-loop-arg
invariant-loop-arg l = NoneIs (λ x. x ≡ Var l.fn.var) (take l.arg-index l.fn.head)
