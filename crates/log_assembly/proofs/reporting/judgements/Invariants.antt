use Rattle.std.proofs.Common.{◌≡◌, map, take}
use Rattle.log_assembly.specs.Judged.{judgement_of}
use Rattle.log_assembly.proofs.reporting.judgements.Given as goal

abbrev pub invariant-loop-object : goal.invariant-loop-object
invariant-loop-object l = l.judged ≡ map (judgement_of l.cases.tuples l.event l.answers) (take l.object-index l.object-items)
