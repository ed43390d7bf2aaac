-- One lead, and then the rest.
use Rattle.std.proofs.Common.{◌<◌, length}
use Rattle.std.proofs.lemmas.Result.{on_ok_weaker}
use Rattle.why_answers.proofs.Marking.{first_low, goes_further, lead_in, named_more}
use Rattle.why_answers.proofs.showing.+mark_all.Goals as goal

pub returns-clause-facts : goal.returns-clause-facts
returns-clause-facts t c =
    on_ok_weaker c.mark_all.result
    (λ e. named_more c.args.leads.now c.args.places.now c.in-Some.rest.now c.in-Some.place.now c.index-leads-place.result c.args.shown.now.marks c.mark.new.self.marks c.mark_all.new.shown.marks c.in-Some.ensures.cases.0 (first_low (λ k. k < length c.args.leads.now) c.args.places.now c.in-Some.rest.now c.in-Some.place.now c.in-Some.ensures.cases.0 c.requires.places) c.index-leads-place.is c.in_ok-mark.ensures.facts e)
    c.mark_all.ensures.facts

pub returns-clause-shown : goal.returns-clause-shown
returns-clause-shown t c =
    on_ok_weaker c.mark_all.result
    (λ on. goes_further c.args.leads.now c.index-leads-place.result c.args.shown.now c.mark.new.self c.mark_all.new.shown (lead_in c.args.leads.now c.in-Some.place.now c.index-leads-place.result (first_low (λ k. k < length c.args.leads.now) c.args.places.now c.in-Some.rest.now c.in-Some.place.now c.in-Some.ensures.cases.0 c.requires.places) c.index-leads-place.is) c.in_ok-mark.ensures.shown on)
    c.mark_all.ensures.shown
