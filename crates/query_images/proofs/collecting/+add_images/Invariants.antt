-- The atoms that are left.
use Rattle.std.proofs.Common.{length}
use Rattle.query_images.proofs.collecting.+add_images.Given as goal

abbrev pub decreases-add_images : goal.decreases-add_images
decreases-add_images l = length l.query.now.atoms
