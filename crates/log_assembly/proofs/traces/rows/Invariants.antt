use Rattle.std.proofs.Common.{◌≡◌, map, take}
use Rattle.log_assembly.specs.Gathered.{row_of}
use Rattle.log_assembly.proofs.traces.rows.Given as goal

abbrev pub invariant-loop-occurrence : goal.invariant-loop-occurrence
invariant-loop-occurrence l = l.rows.items ≡ map (row_of l.events l.asked) (take l.occurrence-index l.occurrences)
