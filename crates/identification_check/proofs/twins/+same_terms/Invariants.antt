use Rattle.std.proofs.Common.{length}
use Rattle.identification_check.proofs.twins.+same_terms.Given as goal

-- the terms that are left
abbrev pub decreases-same_terms : goal.decreases-same_terms
decreases-same_terms l = length l.one.now
