use Rattle.std.proofs.Common.{◌∙◌, ap, option_map}
use Rattle.annotation_language.specs.Complete.{event_lack}
use Rattle.annotation_language.specs.Reading.{fault_of}
use Rattle.annotation_language.proofs.Lacking.{lack_here}
use Rattle.annotation_language.proofs.completeness.events_lack.Goals as goal

pub returns-in-Some : goal.returns-in-Some
returns-in-Some c = lack_here c.args.events.now c.loop-event.event-index c.event-item.result c.in-Some.lack c.loop-event-test.true (c.in-Some.ensures ∙ ap (λ event. option_map fault_of (event_lack event)) c.event-item.is) c.loop-event.invariant
