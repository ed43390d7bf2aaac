use Rattle.std.proofs.Common.{◌≡◌, map, take}
use Rattle.table_renumbering.specs.Renumbering.{picked}
use Rattle.join_engine.proofs.reordering.put_back.Given as goal

abbrev pub invariant-loop-tuple : goal.invariant-loop-tuple
invariant-loop-tuple l = l.list ≡ map (picked l.places) (take l.tuple-index l.tuples)
