use Rattle.std.proofs.Common.{take}
use Rattle.std.specs.List.{flat_map}
use Rattle.xes_writer.specs.Gathered.{Puts}
use Rattle.xes_writer.specs.Xes.{trace_text}
use Rattle.xes_writer.proofs.writing.put_traces.Given as goal

abbrev pub invariant-loop-trace : goal.invariant-loop-trace
invariant-loop-trace g l = Puts g.O.Sink.written g.O.Sink.wants g.O.Sink.failed g.O.Sink.faults l.fn.out l.fn.gather l.out l.gather (flat_map trace_text (take l.trace-index l.fn.traces))
