use Rattle.std.proofs.Common.{length}
use Rattle.why_answers.proofs.putting.+are_same_rows.Given as goal

-- the rows that are left
abbrev pub decreases-are_same_rows : goal.decreases-are_same_rows
decreases-are_same_rows l = length l.rows.now
