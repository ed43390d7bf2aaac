-- The atoms that are left, put among those in order, are all in order.
use Rattle.std.proofs.Common.{◌≡◌, length}
use Rattle.queries.specs.Normal.{in_order}
use Rattle.queries.proofs.Placing.{put_all}
use Rattle.queries.proofs.normal.sorted.Given as goal

abbrev pub invariant-loop-atom : goal.invariant-loop-atom
invariant-loop-atom l = put_all l.atoms.items l.out.items ≡ in_order l.fn.atoms.items

abbrev pub decreases-loop-atom : goal.decreases-loop-atom
decreases-loop-atom l = length l.atoms.items
