use Rattle.std.proofs.Common.{◌≡◌, take}
use Rattle.std.specs.List.{flat_map}
use Rattle.log_assembly.specs.Judged.{times_at}
use Rattle.log_assembly.proofs.entries.times.Given as goal

abbrev pub invariant-loop-attribute : goal.invariant-loop-attribute
invariant-loop-attribute l = l.out.items ≡ flat_map times_at (take l.attribute-index l.attributes)
