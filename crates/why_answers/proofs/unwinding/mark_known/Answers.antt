-- By `Deriving`.
use Rattle.std.proofs.Common.{◌∙◌, ap, subst, ◌++◌, ◌∷◌, []}
use Rattle.std.proofs.lemmas.Result.{on_ok_weaker}
use Rattle.dllite_axioms.proofs.ChaseLaws.{stands_where_derived}
use Rattle.mapping_facts.specs.Facts.{mapped_facts}
use Rattle.why_answers.specs.declared.showing.Shown.{Shown}
use Rattle.why_answers.specs.Putting.{PutsBehind}
use Rattle.why_answers.proofs.Deriving.{mark_shown}
use Rattle.why_answers.proofs.unwinding.mark_known.Goals as goal

pub unreachable-requires : goal.unreachable-requires
unreachable-requires c =
    let s = (stands_where_derived c.args.downs.now.axioms (mapped_facts c.args.mappings.now c.args.tables.now) c.args.fact.now).1 c.requires.fact.derived in
    (rw c.in_default.is at c.in_ok-steps.ensures.derives) s.0 s.1

pub returns-clause-shown : goal.returns-clause-shown
returns-clause-shown c =
    let before : Shown = c.args.shown.now in
    let after : Shown = record { steps = c.put_behind.new.steps; marks = c.push.new.self } in
    on_ok_weaker c.push.result
    (λ e. mark_shown c.args.downs.now.axioms c.args.mappings.now c.args.tables.now c.args.fact.now c.in-Some.steps c.in_ok-step.step before after
    (rw c.in-Some.is at c.in_ok-steps.ensures.derives)
    (subst (λ ss. PutsBehind ss 0 before.steps after.steps c.in_ok-step.step) c.items.ensures c.in_ok-step.ensures)
    (e ∙ ap (λ f. before.marks ++ record { step = c.in_ok-step.step; fact = f } ∷ []) c.in_ok-fact.ensures))
    c.push.ensures.ok
