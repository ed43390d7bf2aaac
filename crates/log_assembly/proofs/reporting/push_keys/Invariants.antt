use Rattle.std.proofs.Common.{◌≡◌, ◌++◌, take}
use Rattle.std.specs.List.{flat_map}
use Rattle.log_assembly.specs.TheReport.{dropped_line}
use Rattle.log_assembly.proofs.reporting.push_keys.Given as goal

abbrev pub invariant-loop-key : goal.invariant-loop-key
invariant-loop-key l = l.out.items ≡ l.fn.out.items ++ flat_map (dropped_line l.event l.object) (take l.key-index l.keys)
