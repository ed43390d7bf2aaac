use Rattle.std.proofs.Common.{length}
use Rattle.why_answers.proofs.reading.+are_known.Given as goal

-- the terms that are left
abbrev pub decreases-are_known : goal.decreases-are_known
decreases-are_known l = length l.terms.now
