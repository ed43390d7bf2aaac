use Rattle.std.proofs.Common.{length}
use Rattle.answer_tests.proofs.ready.+count.Given as goal

-- the mappings that are left
abbrev pub decreases-count : goal.decreases-count
decreases-count l = length l.mappings.now
