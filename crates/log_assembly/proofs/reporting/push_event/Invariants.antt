use Rattle.std.proofs.Common.{◌≡◌, ◌++◌, take}
use Rattle.std.specs.List.{flat_map}
use Rattle.log_assembly.specs.TheReport.{judgement_text}
use Rattle.log_assembly.proofs.reporting.push_event.Given as goal

abbrev pub invariant-loop-judgement : goal.invariant-loop-judgement
invariant-loop-judgement l = l.out.items ≡ l.fn.out.items ++ flat_map (judgement_text l.event.name) (take l.judgement-index l.judged)
