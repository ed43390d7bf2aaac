use Rattle.std.proofs.Common.{length}
use Rattle.why_answers.proofs.putting.+put_chain.Given as goal

-- the numbers that are left
abbrev pub decreases-put_chain : goal.decreases-put_chain
decreases-put_chain l = length l.chain.now
