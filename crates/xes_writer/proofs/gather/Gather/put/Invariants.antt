use Rattle.std.proofs.Common.{◌≤◌, ◌-◌, length, take}
use Rattle.xes_writer.specs.Gathered.{Puts}
use Rattle.xes_writer.proofs.gather.Gather.put.Given as goal

abbrev pub invariant-loop-at : goal.invariant-loop-at
invariant-loop-at g l = record {
  within : l.at ≤ length l.text;
  put : Puts g.O.Sink.written g.O.Sink.wants g.O.Sink.failed g.O.Sink.faults l.fn.out l.fn.self l.out l.self (take l.at l.text);
}

abbrev pub decreases-loop-at : goal.decreases-loop-at
decreases-loop-at g l = length l.text - l.at
