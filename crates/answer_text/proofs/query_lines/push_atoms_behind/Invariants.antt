use Rattle.std.proofs.Common.{◌≡◌, ◌++◌, take, map, codes}
use Rattle.answer_text.specs.Answers.{each_behind}
use Rattle.answer_text.specs.Queries.{atom_text}
use Rattle.answer_text.proofs.query_lines.push_atoms_behind.Given as goal

abbrev pub invariant-loop-atom : goal.invariant-loop-atom
invariant-loop-atom l = l.out.items ≡ l.fn.out.items ++ each_behind (codes ", ") (map (atom_text l.fn.names.variables.now l.fn.names.classes.now l.fn.names.links.now) (take l.atom-index l.fn.atoms))
