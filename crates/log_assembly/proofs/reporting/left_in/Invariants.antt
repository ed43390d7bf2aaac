use Rattle.std.proofs.Common.{◌≡◌, ◌≤◌, take}
use Rattle.log_assembly.specs.TheReport.{left_in}
use Rattle.log_assembly.proofs.reporting.left_in.Given as goal

abbrev pub invariant-loop-judgement : goal.invariant-loop-judgement
invariant-loop-judgement l = record { so_far : l.count ≡ left_in (take l.judgement-index l.judged); low : l.count ≤ l.judgement-index }
