use Rattle.std.proofs.Common.{◌≡◌, take}
use Rattle.xes_writer.specs.Xes.{escaped}
use Rattle.xes_writer.proofs.gather.plain_len.Given as goal

abbrev pub invariant-loop-at : goal.invariant-loop-at
invariant-loop-at l = escaped (take l.at l.text) ≡ take l.at l.text
