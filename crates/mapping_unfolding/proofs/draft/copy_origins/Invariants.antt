use Rattle.std.proofs.Common.{◌≡◌, take}
use Rattle.mapping_unfolding.proofs.draft.copy_origins.Given as goal

abbrev pub invariant-loop-origin : goal.invariant-loop-origin
invariant-loop-origin l = l.copies ≡ take l.origin-index l.origins
