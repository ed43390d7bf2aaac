use Rattle.why_answers.proofs.unwinding.+unwind.Given as goal

-- the place goes down
abbrev pub decreases-unwind : goal.decreases-unwind
decreases-unwind l = l.at
