use Rattle.std.proofs.Common.{take}
use Rattle.std.specs.List.{flat_map}
use Rattle.xes_writer.specs.Gathered.{Puts}
use Rattle.xes_writer.specs.Xes.{entry_text}
use Rattle.xes_writer.proofs.writing.put_entries.Given as goal

abbrev pub invariant-loop-entry : goal.invariant-loop-entry
invariant-loop-entry g l = Puts g.O.Sink.written g.O.Sink.wants g.O.Sink.failed g.O.Sink.faults l.fn.out l.fn.gather l.out l.gather (flat_map (entry_text l.fn.indent) (take l.entry-index l.fn.entries))
