use Rattle.std.proofs.Common.{length}
use Rattle.why_answers.proofs.showing.+mark_all.Given as goal

-- the places that are left
abbrev pub decreases-mark_all : goal.decreases-mark_all
decreases-mark_all l = length l.places.now
