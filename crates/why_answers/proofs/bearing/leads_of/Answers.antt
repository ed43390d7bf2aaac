-- A mark at a time.
use Rattle.std.proofs.Common.{subst}
use Rattle.std.proofs.lemmas.List.{take_all}
use Rattle.why_answers.specs.Bearing.{LeadOn}
use Rattle.why_answers.proofs.Births.{leads_more, leads_start}
use Rattle.why_answers.proofs.bearing.leads_of.Goals as goal

pub loop-mark-init : goal.loop-mark-init
loop-mark-init c = leads_start c.args.downs.now.axioms c.args.query.now c.args.step.now c.args.marks.now c.in_ok-leads.leads c.in_ok-leads.ensures.facts (c.in_ok-leads.ensures.led c.args.downs.now.axioms)

pub loop-mark-preserved : goal.loop-mark-preserved
loop-mark-preserved c = leads_more c.args.downs.now.axioms c.args.query.now c.args.step.now c.args.marks.now c.loop-mark.mark-index c.mark-item.result c.loop-mark.leads c.push_from.new.leads c.loop-mark-test.true c.mark-item.is c.loop-mark.invariant c.in_ok-push_from.ensures

pub returns : goal.returns
returns c = subst (λ ms. LeadOn c.args.downs.now.axioms c.args.query.now c.args.step.now ms c.args.marks.now c.loop-mark.leads) (take_all c.loop-mark.mark-index c.args.marks.now c.loop-mark-test.false) c.loop-mark.invariant
