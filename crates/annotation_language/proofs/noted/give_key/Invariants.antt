-- So many events are changed.
use Rattle.std.proofs.Common.{◌≡◌}
use Rattle.annotation_language.specs.Changing.{with_key}
use Rattle.annotation_language.proofs.Gathered.{partly}
use Rattle.annotation_language.proofs.noted.give_key.Given as goal

abbrev pub invariant-loop-event : goal.invariant-loop-event
invariant-loop-event l = l.events ≡ partly (with_key l.name l.key) l.event-index l.initial.events
