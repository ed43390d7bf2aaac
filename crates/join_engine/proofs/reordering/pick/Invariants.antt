use Rattle.std.proofs.Common.{◌≡◌, take}
use Rattle.table_renumbering.specs.Renumbering.{picked}
use Rattle.join_engine.proofs.reordering.pick.Given as goal

abbrev pub invariant-loop-place : goal.invariant-loop-place
invariant-loop-place l = l.picked ≡ picked (take l.place-index l.places) l.tuple
