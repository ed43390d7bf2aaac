use Rattle.certain_semantics.specs.Certain.{IsCertain}
use Rattle.mapping_facts.specs.Facts.{mapped_facts}
use Rattle.log_assembly.specs.Answered.{EventIsTooWide, IsEventAsked}
use Rattle.log_assembly.proofs.Asks.{asked_more, in_get_or, kept_fault, none_more}
use Rattle.log_assembly.proofs.asking.ask_events.Goals as goal

pub ask_event-requires : goal.ask_event-requires
ask_event-requires c =
    let event = c.event-item.result in
    c.requires event (in_get_or c.args.events.now c.loop-event.event-index event event c.loop-event-test.true c.event-item.is)

pub returns-in_err-ask_event-clause-wide : goal.returns-in_err-ask_event-clause-wide
returns-in_err-ask_event-clause-wide c =
    let event = c.event-item.result in
    kept_fault c.from_residual.result c.in_err-ask_event.field-0.0 c.from_residual.ensures.1
    (λ wide. (event, in_get_or c.args.events.now c.loop-event.event-index event event c.loop-event-test.true c.event-item.is, c.in_err-ask_event.ensures.wide wide))

pub loop-event-preserved : goal.loop-event-preserved
loop-event-preserved c =
    let certain = IsCertain c.args.specification.now.axioms (mapped_facts c.args.specification.now.mappings c.args.tables.now) in
    let events = c.args.events.now in
    let i = c.loop-event.event-index in
    record {
      asked = asked_more (IsEventAsked certain) events i c.event-item.result c.loop-event.asked c.push.new.self c.in_ok-ask_event.field-0
          c.loop-event-test.true c.event-item.is c.loop-event.invariant.asked c.in_ok-ask_event.ensures.asked c.in_ok-push.ensures.ok;
      narrow = none_more (EventIsTooWide c.args.specification.now.axioms) events i c.event-item.result c.loop-event-test.true c.event-item.is c.loop-event.invariant.narrow c.in_ok-ask_event.ensures.narrow;
    }
