-- The variable stands in no atom so far.
use Rattle.std.proofs.Common.{◌≤◌, take}
use Rattle.queries.specs.Occurrences.{atom_occurs}
use Rattle.query_images.proofs.Scanning.{NoneIs}
use Rattle.query_images.proofs.cutting.some_have.Given as goal

abbrev pub invariant-loop-atom : goal.invariant-loop-atom
invariant-loop-atom l = NoneIs (λ a. 1 ≤ atom_occurs l.fn.var a) (take l.atom-index l.fn.atoms)
