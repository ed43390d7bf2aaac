use Rattle.std.proofs.Common.{◌≡◌, ◌++◌, take, map, codes}
use Rattle.answer_text.specs.Answers.{each_behind}
use Rattle.answer_text.specs.Queries.{argument_text}
use Rattle.answer_text.proofs.query_lines.push_arguments_behind.Given as goal

abbrev pub invariant-loop-argument : goal.invariant-loop-argument
invariant-loop-argument l = l.out.items ≡ l.fn.out.items ++ each_behind (codes ", ") (map (argument_text l.fn.names) (take l.argument-index l.fn.arguments))
