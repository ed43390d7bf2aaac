use Rattle.std.proofs.Common.{length}
use Rattle.why_answers.proofs.reading.+reads_rest.Given as goal

-- the atoms that are left
abbrev pub decreases-reads_rest : goal.decreases-reads_rest
decreases-reads_rest l = length l.rest.now
