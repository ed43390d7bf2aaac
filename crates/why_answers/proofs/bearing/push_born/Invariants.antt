-- What is born in the atoms so far.
use Rattle.std.proofs.Common.{◌≡◌, ◌<◌}
use Rattle.why_answers.specs.Bearing.{AddsBorn}
use Rattle.why_answers.proofs.bearing.push_born.Given as goal

abbrev pub invariant-loop-at : goal.invariant-loop-at
invariant-loop-at l = AddsBorn (λ i e. (i < l.at) × (e ≡ l.end)) l.downs.axioms l.query l.step l.from l.term l.fn.leads l.leads
