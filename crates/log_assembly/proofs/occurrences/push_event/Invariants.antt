use Rattle.std.proofs.Common.{◌≡◌, ◌++◌, take}
use Rattle.std.specs.List.{flat_map}
use Rattle.log_assembly.specs.Gathered.{object_occurrences}
use Rattle.log_assembly.proofs.occurrences.push_event.Given as goal

abbrev pub invariant-loop-object : goal.invariant-loop-object
invariant-loop-object l = l.out.items ≡ l.fn.out.items ++ flat_map (object_occurrences l.annotated.cases.now.tuples l.annotated.event.now l.annotated.answers.now l.annotated.place) (take l.object-index l.object-items)
