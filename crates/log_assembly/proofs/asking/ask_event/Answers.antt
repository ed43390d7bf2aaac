use Rattle.std.proofs.Common.{sym, ◌∙◌, subst}
use Rattle.log_assembly.specs.Answered.{HasOne, KeyIsTooWide, MayBeTooWide}
use Rattle.log_assembly.proofs.Asks.{cases_wide, event_narrow, kept_fault, keys_wide, objects_wide}
use Rattle.log_assembly.proofs.asking.ask_event.Goals as goal

pub returns-in_err-objects-clause-wide : goal.returns-in_err-objects-clause-wide
returns-in_err-objects-clause-wide c =
    kept_fault c.from_residual.result c.in_err-objects.field-0.0 c.from_residual.ensures.1 (λ wide. objects_wide c.args.specification.now.axioms c.args.event.now (c.in_err-objects.ensures.wide wide))

pub ask_query-requires : goal.ask_query-requires
ask_query-requires c = λ q e. c.requires.cases q (sym c.as_ref.ensures.value ∙ e)

pub returns-in_err-cases-clause-wide : goal.returns-in_err-cases-clause-wide
returns-in_err-cases-clause-wide c =
    let axioms = c.args.specification.now.axioms in
    kept_fault c.from_residual-in_err-cases.result c.in_err-cases.field-0.0 c.from_residual-in_err-cases.ensures.1
    (λ wide. cases_wide axioms c.args.event.now (subst (MayBeTooWide axioms) c.as_ref.ensures.value (c.in_err-cases.ensures.wide wide)))

pub returns-in_err-keys-clause-wide : goal.returns-in_err-keys-clause-wide
returns-in_err-keys-clause-wide c =
    let axioms = c.args.specification.now.axioms in
    kept_fault c.from_residual-in_err-keys.result c.in_err-keys.field-0.0 c.from_residual-in_err-keys.ensures.1
    (λ wide. keys_wide axioms c.args.event.now (subst (HasOne (KeyIsTooWide axioms)) c.items.ensures (c.in_err-keys.ensures.wide wide)))

pub returns-clause-narrow : goal.returns-clause-narrow
returns-clause-narrow c =
    let axioms = c.args.specification.now.axioms in
    event_narrow axioms c.args.event.now c.in_ok-objects.ensures.narrow (λ h. c.in_ok-cases.ensures.narrow (subst (MayBeTooWide axioms) (sym c.as_ref.ensures.value) h))
    (λ h. c.in_ok-keys.ensures.narrow (subst (HasOne (KeyIsTooWide axioms)) (sym c.items.ensures) h))
