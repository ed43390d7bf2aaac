use Rattle.std.proofs.Common.{◌≡◌, ◌++◌, take}
use Rattle.std.specs.List.{flat_map}
use Rattle.query_images.specs.Images.{head_at}
use Rattle.query_images.proofs.collecting.add_tuples.Given as goal

abbrev pub invariant-loop-rows : goal.invariant-loop-rows
invariant-loop-rows l = l.out.items ≡ l.fn.out.items ++ flat_map (head_at l.tables l.query) (take l.rows-index l.found)
