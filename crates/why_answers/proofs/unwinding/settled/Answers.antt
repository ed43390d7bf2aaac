-- By `Explained`.
use Rattle.std.proofs.Common.{◌∙◌, sym, ap, subst}
use Rattle.std.proofs.lemmas.Result.{IfOk-weaker}
use Rattle.queries.specs.Matches.{Matched}
use Rattle.why_answers.specs.Showing.{AreMarked, Read, lead_facts, mark_facts}
use Rattle.why_answers.proofs.Explained.{plain_match, shown_on}
use Rattle.why_answers.proofs.unwinding.settled.Goals as goal

pub settle-requires : goal.settle-requires
settle-requires c =
    let m = plain_match c.args.query.now (lead_facts c.items-2.result.now) c.args.shown.marks c.requires.head (ap lead_facts c.items-2.ensures ∙ c.in_ok-leads.ensures.facts ∙ ap mark_facts c.items.ensures) c.requires.read in
    record { read = (m.0, subst (λ as'. Matched (lead_facts c.items-2.result.now) m.0 as') (sym c.items-3.ensures) m.1) }

pub returns-clause-read : goal.returns-clause-read
returns-clause-read c = IfOk-weaker c.settle.result _ _ (λ n r. subst (λ as'. Read as' (mark_facts n.marks)) c.items-3.ensures r) c.settle.ensures.read

pub returns-clause-shown : goal.returns-clause-shown
returns-clause-shown c =
    IfOk-weaker c.settle.result _ _
    (λ n h axioms. shown_on axioms c.args.shown c.in_ok-leads.leads c.items-2.result.now n (sym c.items-2.ensures) (λ facts are. c.in_ok-leads.ensures.led axioms facts (subst (AreMarked facts) (sym c.items.ensures) are)) (h axioms))
    c.settle.ensures.shown
