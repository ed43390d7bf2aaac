use Rattle.std.proofs.Common.{length}
use Rattle.identification_check.proofs.twins.+push_shared.Given as goal

-- the links that are left
abbrev pub decreases-push_shared : goal.decreases-push_shared
decreases-push_shared l = length l.links.now
