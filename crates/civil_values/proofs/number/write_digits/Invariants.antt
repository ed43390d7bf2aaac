use Rattle.civil_values.proofs.Writing.{IsWriting}
use Rattle.civil_values.proofs.number.write_digits.Given as goal

abbrev pub invariant-loop-rest : goal.invariant-loop-rest
invariant-loop-rest l = IsWriting l.fn.n l.at l.rest l.digits

abbrev pub decreases-loop-rest : goal.decreases-loop-rest
decreases-loop-rest l = l.rest
