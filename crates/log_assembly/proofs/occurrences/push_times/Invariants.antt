use Rattle.std.proofs.Common.{◌≡◌, ◌++◌, map, take}
use Rattle.log_assembly.specs.Gathered.{occurrence}
use Rattle.log_assembly.proofs.occurrences.push_times.Given as goal

abbrev pub invariant-loop-time : goal.invariant-loop-time
invariant-loop-time l = l.out.items ≡ l.fn.out.items ++ map (occurrence l.case l.object l.place) (take l.time-index l.times)
