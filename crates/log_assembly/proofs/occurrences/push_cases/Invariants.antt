use Rattle.std.proofs.Common.{◌≡◌, ◌++◌, take}
use Rattle.log_assembly.specs.Gathered.{occurrences_in}
use Rattle.log_assembly.proofs.occurrences.push_cases.Given as goal

abbrev pub invariant-loop-case : goal.invariant-loop-case
invariant-loop-case l = l.out.items ≡ l.fn.out.items ++ occurrences_in l.object l.place l.times (take l.case-index l.cases)
