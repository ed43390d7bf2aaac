use Rattle.std.proofs.Common.{◌≡◌, take}
use Rattle.why_answers.proofs.finding.with_one.Given as goal

abbrev pub invariant-loop-fact : goal.invariant-loop-fact
invariant-loop-fact l = l.copies ≡ take l.fact-index l.facts
