-- The marks so far, each as a lead that needs no axiom.
use Rattle.std.proofs.Common.{◌≡◌, [], map, take}
use Rattle.why_answers.proofs.showing.plain.Given as goal

abbrev pub invariant-loop-mark : goal.invariant-loop-mark
invariant-loop-mark l = l.leads ≡ map (λ m. record { step = m.step; chain = []; fact = m.fact }) (take l.mark-index l.marks)
