use Rattle.std.proofs.Common.{◌≡◌, ◌*◌, ◌^◌, ◌≤◌, length, take}
use Rattle.std.specs.List.{sum_by}
use Rattle.log_assembly.proofs.reporting.events_in.Given as goal

abbrev pub invariant-loop-trace : goal.invariant-loop-trace
invariant-loop-trace l = record { so_far : l.count ≡ sum_by (λ trace. length trace.events) (take l.trace-index l.traces); low : l.count ≤ 2 ^ 64 * l.trace-index }
