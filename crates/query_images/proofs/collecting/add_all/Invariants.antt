-- Nothing is lost on the way.
use Rattle.std.proofs.Common.{length}
use Rattle.query_images.proofs.Imaged.{Shares}
use Rattle.query_images.proofs.collecting.add_all.Given as goal

abbrev pub invariant-loop-tuple : goal.invariant-loop-tuple
invariant-loop-tuple l = Shares l.out.items l.found.items l.fn.out.items l.fn.found.items

abbrev pub decreases-loop-tuple : goal.decreases-loop-tuple
decreases-loop-tuple l = length l.found.items
