use Rattle.std.proofs.Common.{length}
use Rattle.why_answers.proofs.asking.+put_tuple.Given as goal

-- the places that are left
abbrev pub decreases-put_tuple : goal.decreases-put_tuple
decreases-put_tuple l = length l.head.now
