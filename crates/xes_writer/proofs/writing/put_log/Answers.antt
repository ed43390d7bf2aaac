use Rattle.xes_writer.specs.Xes.{log_front, xes_text}
use Rattle.xes_writer.proofs.Putting.{puts_then}
use Rattle.xes_writer.proofs.writing.put_log.Goals as goal

pub returns : goal.returns
unfolding xes_text log_front
returns g c = puts_then (puts_then c.put.ensures (rw c.items.ensures at c.put_traces.ensures)) c.put-2.ensures
