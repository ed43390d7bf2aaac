use Rattle.std.proofs.Common.{◌≡◌, map, take}
use Rattle.log_assembly.specs.Gathered.{trace_of}
use Rattle.log_assembly.proofs.traces.log_of.Given as goal

abbrev pub invariant-loop-case : goal.invariant-loop-case
invariant-loop-case l = l.traces ≡ map (trace_of l.notes l.asked l.occurrences) (take l.case-index l.case-items)
