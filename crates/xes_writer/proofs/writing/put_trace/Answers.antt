use Rattle.xes_writer.specs.Xes.{trace_text}
use Rattle.xes_writer.proofs.Putting.{puts_then}
use Rattle.xes_writer.proofs.writing.put_trace.Goals as goal

pub returns : goal.returns
unfolding trace_text
returns g c = puts_then (puts_then (puts_then c.put.ensures (rw c.items.ensures at c.put_entries.ensures)) (rw c.items-2.ensures at c.put_events.ensures)) c.put-2.ensures
