use Rattle.std.proofs.Common.{◌≡◌, ◌++◌, take, map, codes}
use Rattle.answer_text.specs.Answers.{each_behind, term_text}
use Rattle.answer_text.proofs.answers.push_terms_behind.Given as goal

abbrev pub invariant-loop-term : goal.invariant-loop-term
invariant-loop-term l = l.out.items ≡ l.fn.out.items ++ each_behind (codes " ") (map term_text (take l.term-index l.fn.terms))
