use Rattle.std.proofs.Common.{◌≡◌, take, filter_map}
use Rattle.log_assembly.specs.Found.{case_in}
use Rattle.log_assembly.proofs.lookup.cases_at.Given as goal

abbrev pub invariant-loop-value : goal.invariant-loop-value
invariant-loop-value l = l.found.items ≡ filter_map (case_in l.cases.tuples) (take l.value-index l.value-items)
