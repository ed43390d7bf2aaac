use Rattle.std.proofs.Common.{◌≡◌, ◌-◌, length, take}
use Rattle.std.specs.List.{zip}
use Rattle.log_assembly.specs.Gathered.{occurrences_from}
use Rattle.log_assembly.proofs.occurrences.gather.Given as goal

abbrev pub invariant-loop-at : goal.invariant-loop-at
invariant-loop-at l = l.out.items ≡ occurrences_from l.all_cases.tuples 0 (take l.at (zip l.events l.asked))

abbrev pub decreases-loop-at : goal.decreases-loop-at
decreases-loop-at l = length l.events - l.at
