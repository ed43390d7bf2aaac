use Rattle.std.proofs.Common.{◌≡◌, ◌++◌, codes}
use Rattle.std.specs.List.{flat_map, range_with_len}
use Rattle.big_project.specs.Files.{step_line}
use Rattle.big_project.proofs.tables.step_text.Given as goal

abbrev pub invariant-loop-before : goal.invariant-loop-before
invariant-loop-before l = l.out.items ≡ codes "id,doc,done\n" ++ flat_map (step_line l.docs) (range_with_len 1 l.before)
