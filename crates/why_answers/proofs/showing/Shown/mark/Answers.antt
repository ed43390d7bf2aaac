-- By `Marking`.
use Rattle.std.proofs.Common.{◌∙◌, ap, subst, ◌++◌, ◌∷◌, []}
use Rattle.std.proofs.lemmas.Result.{on_ok_weaker}
use Rattle.why_answers.specs.declared.showing.Shown.{Shown}
use Rattle.why_answers.specs.Putting.{PutsChain}
use Rattle.why_answers.proofs.Marking.{mark_goes_on}
use Rattle.why_answers.proofs.showing.Shown.mark.Goals as goal

pub returns-clause-shown : goal.returns-clause-shown
returns-clause-shown c =
    let before : Shown = c.args.self.now in
    let after : Shown = record { steps = c.put_chain.new.steps; marks = c.push.new.self } in
    on_ok_weaker c.push.result
    (λ e. mark_goes_on c.args.lead.now before after c.in_ok-step.step (subst (λ chain. PutsChain chain c.args.lead.now.step before.steps after.steps c.in_ok-step.step) c.items.ensures c.in_ok-step.ensures)
    (e ∙ ap (λ f. before.marks ++ record { step = c.in_ok-step.step; fact = f } ∷ []) c.in_ok-fact.ensures))
    c.push.ensures.ok
