use Rattle.std.proofs.Common.{◌≡◌, take, filter_map}
use Rattle.log_assembly.specs.Found.{second}
use Rattle.log_assembly.proofs.lookup.values_at.Given as goal

abbrev pub invariant-loop-tuple : goal.invariant-loop-tuple
invariant-loop-tuple l = l.values.items ≡ filter_map second (take l.tuple-index l.pairs)
