-- What is left lacks the first.
use Rattle.std.proofs.Common.{◌≡◌, drop, option_map}
use Rattle.annotation_language.specs.Complete.{events_lack}
use Rattle.annotation_language.specs.Reading.{fault_of}
use Rattle.annotation_language.proofs.completeness.events_lack.Given as goal

abbrev pub invariant-loop-event : goal.invariant-loop-event
invariant-loop-event l = option_map fault_of (events_lack (drop l.event-index l.events)) ≡ option_map fault_of (events_lack l.events)
