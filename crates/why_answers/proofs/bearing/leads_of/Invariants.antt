-- The leads from the marks so far.
use Rattle.std.proofs.Common.{take}
use Rattle.why_answers.specs.Bearing.{LeadOn}
use Rattle.why_answers.proofs.bearing.leads_of.Given as goal

abbrev pub invariant-loop-mark : goal.invariant-loop-mark
invariant-loop-mark l = LeadOn l.downs.axioms l.query l.step (take l.mark-index l.marks) l.marks l.leads
