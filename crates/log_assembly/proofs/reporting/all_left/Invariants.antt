use Rattle.std.proofs.Common.{◌≡◌, ◌*◌, ◌^◌, ◌≤◌, take}
use Rattle.std.specs.List.{sum_by}
use Rattle.log_assembly.specs.TheReport.{left_in}
use Rattle.log_assembly.proofs.reporting.all_left.Given as goal

abbrev pub invariant-loop-list : goal.invariant-loop-list
invariant-loop-list l = record { so_far : l.count ≡ sum_by left_in (take l.list-index l.judged); low : l.count ≤ 2 ^ 64 * l.list-index }
