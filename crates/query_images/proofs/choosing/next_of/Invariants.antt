-- The atom that is taken stands.
use Rattle.std.proofs.Common.{◌<◌, length}
use Rattle.query_images.proofs.choosing.next_of.Given as goal

abbrev pub invariant-loop-i : goal.invariant-loop-i
invariant-loop-i l = l.next < length l.fn.atoms
