use Rattle.std.proofs.Common.{◌≡◌, ◌++◌, codes}
use Rattle.std.specs.List.{flat_map, range_with_len}
use Rattle.big_project.specs.Files.{doc_line}
use Rattle.big_project.proofs.tables.doc_text.Given as goal

abbrev pub invariant-loop-before : goal.invariant-loop-before
invariant-loop-before l = l.out.items ≡ codes "id,made\n" ++ flat_map doc_line (range_with_len 1 l.before)
