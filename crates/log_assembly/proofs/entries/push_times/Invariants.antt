use Rattle.std.proofs.Common.{◌≡◌, ◌++◌, filter_map, take}
use Rattle.log_assembly.specs.Judged.{time_of}
use Rattle.log_assembly.proofs.entries.push_times.Given as goal

abbrev pub invariant-loop-value : goal.invariant-loop-value
invariant-loop-value l = l.out.items ≡ l.fn.out.items ++ filter_map time_of (take l.value-index l.value-items)
