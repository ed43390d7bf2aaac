use Rattle.std.proofs.Common.{◌≡◌, ◌-◌, length, map, take}
use Rattle.std.specs.List.{zip}
use Rattle.log_assembly.specs.Judged.{judgements_of}
use Rattle.log_assembly.proofs.reporting.judge_all.Given as goal

abbrev pub invariant-loop-at : goal.invariant-loop-at
invariant-loop-at l = l.judged.items ≡ map (judgements_of l.cases.tuples) (take l.at (zip l.events l.asked))

abbrev pub decreases-loop-at : goal.decreases-loop-at
decreases-loop-at l = length l.events - l.at
