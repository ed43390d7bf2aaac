use Rattle.std.proofs.Common.{◌≡◌, map, take}
use Rattle.why_answers.proofs.answering.numbers.Given as goal

abbrev pub invariant-loop-mark : goal.invariant-loop-mark
invariant-loop-mark l = l.numbers ≡ map (λ m. m.step) (take l.mark-index l.marks)
