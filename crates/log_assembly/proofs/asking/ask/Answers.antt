use Rattle.std.proofs.Common.{sym, ◌∙◌, subst, option_copied}
use Rattle.certain_semantics.specs.Certain.{IsCertain}
use Rattle.mapping_facts.specs.Facts.{mapped_facts}
use Rattle.log_assembly.specs.Answered.{EventIsTooWide, HasOne, MayBeTooWide}
use Rattle.log_assembly.proofs.Asks.{all_narrow, answers_in_order, case_name_wide, case_query_wide, events_wide, kept_fault}
use Rattle.log_assembly.proofs.asking.ask.Goals as goal

pub ask_query-requires : goal.ask_query-requires
ask_query-requires c = λ q e. c.requires.case_query q (sym c.case_query.ensures ∙ e)

pub returns-in_err-cases-clause-wide : goal.returns-in_err-cases-clause-wide
returns-in_err-cases-clause-wide c =
    let axioms = c.args.specification.now.axioms in
    kept_fault c.from_residual.result c.in_err-cases.field-0.0 c.from_residual.ensures.1
    (λ wide. case_query_wide axioms c.args.notes.now (subst (MayBeTooWide axioms) c.case_query.ensures (c.in_err-cases.ensures.wide wide)))

pub ask_query-requires-2 : goal.ask_query-requires-2
ask_query-requires-2 c = λ q e. c.requires.case_name q (sym c.case_name.ensures ∙ e)

pub returns-in_err-names-clause-wide : goal.returns-in_err-names-clause-wide
returns-in_err-names-clause-wide c =
    let axioms = c.args.specification.now.axioms in
    kept_fault c.from_residual-in_err-names.result c.in_err-names.field-0.0 c.from_residual-in_err-names.ensures.1
    (λ wide. case_name_wide axioms c.args.notes.now (subst (MayBeTooWide axioms) c.case_name.ensures (c.in_err-names.ensures.wide wide)))

pub returns-in_err-events-clause-wide : goal.returns-in_err-events-clause-wide
returns-in_err-events-clause-wide c =
    let axioms = c.args.specification.now.axioms in
    kept_fault c.from_residual-in_err-events.result c.in_err-events.field-0.0 c.from_residual-in_err-events.ensures.1
    (λ wide. events_wide axioms c.args.notes.now (subst (HasOne (EventIsTooWide axioms)) c.events.ensures (c.in_err-events.ensures.wide wide)))

pub returns-clause-order : goal.returns-clause-order
returns-clause-order c =
    answers_in_order (IsCertain c.args.specification.now.axioms (mapped_facts c.args.specification.now.mappings c.args.tables.now)) (option_copied c.case_query.result) (option_copied c.case_name.result) c.events.result.now
    (record { cases = c.in_ok-cases.cases; names = c.in_ok-names.names; events = c.in_ok-events.events }) c.in_ok-cases.ensures.answers c.in_ok-names.ensures.answers c.in_ok-events.ensures.asked

pub returns-clause-narrow : goal.returns-clause-narrow
returns-clause-narrow c =
    let axioms = c.args.specification.now.axioms in
    all_narrow axioms c.args.notes.now (λ h. c.in_ok-cases.ensures.narrow (subst (MayBeTooWide axioms) (sym c.case_query.ensures) h))
    (λ h. c.in_ok-names.ensures.narrow (subst (MayBeTooWide axioms) (sym c.case_name.ensures) h))
    (λ h. c.in_ok-events.ensures.narrow (subst (HasOne (EventIsTooWide axioms)) (sym c.events.ensures) h))
