use Rattle.std.proofs.Common.{take}
use Rattle.std.specs.List.{flat_map}
use Rattle.xes_writer.specs.Gathered.{Puts}
use Rattle.xes_writer.specs.Xes.{event_text}
use Rattle.xes_writer.proofs.writing.put_events.Given as goal

abbrev pub invariant-loop-event : goal.invariant-loop-event
invariant-loop-event g l = Puts g.O.Sink.written g.O.Sink.wants g.O.Sink.failed g.O.Sink.faults l.fn.out l.fn.gather l.out l.gather (flat_map event_text (take l.event-index l.fn.events))
