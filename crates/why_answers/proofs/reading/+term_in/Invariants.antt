use Rattle.std.proofs.Common.{length}
use Rattle.why_answers.proofs.reading.+term_in.Given as goal

-- the atoms that are left
abbrev pub decreases-term_in : goal.decreases-term_in
decreases-term_in l = length l.atoms.now
