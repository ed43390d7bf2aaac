use Rattle.std.proofs.Common.{◌≡◌, map, take}
use Rattle.table_renumbering.specs.Renumbering.{moved_pair}
use Rattle.table_renumbering.proofs.moving.move_pairs.Given as goal

abbrev pub invariant-loop-pair : goal.invariant-loop-pair
invariant-loop-pair l = l.moved ≡ map (moved_pair l.places) (take l.pair-index l.pairs)
