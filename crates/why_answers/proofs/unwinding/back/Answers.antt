-- By `Explained`.
use Rattle.std.proofs.Common.{sym, subst}
use Rattle.std.proofs.lemmas.Result.{IfOk-weaker}
use Rattle.queries.specs.Matches.{Matched}
use Rattle.why_answers.specs.Showing.{AreMarked, Read, lead_facts, mark_facts}
use Rattle.why_answers.proofs.Explained.{by_axiom, leads_match, shown_on}
use Rattle.why_answers.proofs.unwinding.back.Goals as goal

pub leads_of-requires-clause-by : goal.leads_of-requires-clause-by
leads_of-requires-clause-by c = by_axiom c.requires.step.1

pub settle-requires : goal.settle-requires
settle-requires c =
    let m = leads_match c.args.downs.now.axioms c.args.query.now c.args.step.now c.requires.step.0 c.items.result.now c.in_ok-leads.leads c.requires.head c.requires.step.1
    (subst (λ ms. Read c.requires.step.0.atoms (mark_facts ms)) (sym c.items.ensures) c.requires.step.2) c.in_ok-leads.ensures in
    record { read = (m.0, subst (λ as'. Matched (lead_facts c.items-2.result.now) m.0 as') (sym c.items-3.ensures) (subst (λ ls. Matched (lead_facts ls) m.0 c.args.query.now.atoms) (sym c.items-2.ensures) m.1)) }

pub returns-clause-read : goal.returns-clause-read
returns-clause-read c = IfOk-weaker c.settle.result _ _ (λ n r. subst (λ as'. Read as' (mark_facts n.marks)) c.items-3.ensures r) c.settle.ensures.read

pub returns-clause-shown : goal.returns-clause-shown
returns-clause-shown c =
    IfOk-weaker c.settle.result _ _
    (λ n h. shown_on c.args.downs.now.axioms c.args.shown c.in_ok-leads.leads c.items-2.result.now n (sym c.items-2.ensures) (λ facts are. c.in_ok-leads.ensures.led facts (subst (AreMarked facts) (sym c.items.ensures) are)) (h c.args.downs.now.axioms))
    c.settle.ensures.shown
