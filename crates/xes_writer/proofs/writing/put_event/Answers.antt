use Rattle.xes_writer.specs.Xes.{event_text}
use Rattle.xes_writer.proofs.Putting.{puts_then}
use Rattle.xes_writer.proofs.writing.put_event.Goals as goal

pub returns : goal.returns
unfolding event_text
returns g c = puts_then (puts_then c.put.ensures (rw c.items.ensures at c.put_entries.ensures)) c.put-2.ensures
