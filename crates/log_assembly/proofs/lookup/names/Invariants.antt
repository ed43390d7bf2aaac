use Rattle.std.proofs.Common.{◌≡◌, filter_map, take}
use Rattle.log_assembly.specs.Found.{lone_name}
use Rattle.log_assembly.proofs.lookup.names.Given as goal

abbrev pub invariant-loop-tuple : goal.invariant-loop-tuple
invariant-loop-tuple l = l.found.items ≡ filter_map lone_name (take l.tuple-index l.tuples)
