-- The variable does not stand so far.
use Rattle.std.proofs.Common.{◌≡◌, take}
use Rattle.query_images.proofs.Scanning.{NoneIs}
use Rattle.query_images.proofs.cutting.stands_in.Given as goal

abbrev pub invariant-loop-other : goal.invariant-loop-other
invariant-loop-other l = NoneIs (λ v. v ≡ l.fn.var) (take l.other-index l.fn.vars)
