use Rattle.std.proofs.Common.{◌≡◌, take}
use Rattle.why_answers.specs.Showing.{lead_facts}
use Rattle.why_answers.proofs.showing.copies.Given as goal

abbrev pub invariant-loop-lead : goal.invariant-loop-lead
invariant-loop-lead l = l.facts.items ≡ lead_facts (take l.lead-index l.leads)
