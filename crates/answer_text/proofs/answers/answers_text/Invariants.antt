use Rattle.std.proofs.Common.{◌≡◌, take}
use Rattle.answer_text.specs.Answers.{answers_text}
use Rattle.answer_text.proofs.answers.answers_text.Given as goal

abbrev pub invariant-loop-tuple : goal.invariant-loop-tuple
invariant-loop-tuple l = l.out.items ≡ answers_text (take l.tuple-index l.tuples)
