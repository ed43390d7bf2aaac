use Rattle.std.proofs.Common.{length}
use Rattle.why_answers.proofs.putting.+put_behind.Given as goal

-- the steps that are left
abbrev pub decreases-put_behind : goal.decreases-put_behind
decreases-put_behind l = length l.more.now
