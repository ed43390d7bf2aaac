use Rattle.std.proofs.Common.{◌≡◌, filter, take}
use Rattle.log_assembly.specs.Judged.{has_names}
use Rattle.log_assembly.proofs.reporting.several.Given as goal

abbrev pub invariant-loop-case : goal.invariant-loop-case
invariant-loop-case l = l.several.items ≡ filter (has_names l.asked.names.tuples) (take l.case-index l.case-items)
