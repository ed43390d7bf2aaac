-- The variables of the atoms so far.
use Rattle.std.proofs.Common.{take}
use Rattle.query_images.specs.Cuts.{AreShared}
use Rattle.query_images.proofs.cutting.shared.Given as goal

abbrev pub invariant-loop-atom : goal.invariant-loop-atom
invariant-loop-atom l = AreShared (take l.atom-index l.fn.own) l.fn.others l.fn.head l.vars
