use Rattle.std.proofs.Common.{◌≡◌, ◌++◌, take}
use Rattle.std.specs.List.{flat_map}
use Rattle.log_assembly.specs.TheReport.{case_line}
use Rattle.log_assembly.proofs.reporting.push_several.Given as goal

abbrev pub invariant-loop-case : goal.invariant-loop-case
invariant-loop-case l = l.out.items ≡ l.fn.out.items ++ flat_map case_line (take l.case-index l.cases)
