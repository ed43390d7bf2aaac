use Rattle.std.proofs.Common.{length}
use Rattle.checking_tests.proofs.within.+count.Given as goal

-- the mappings that are left
abbrev pub decreases-count : goal.decreases-count
decreases-count l = length l.mappings.now
