use Rattle.std.proofs.Common.{◌≤◌, length}
use Rattle.join_engine.specs.Heads.{IsFree}
use Rattle.join_engine.proofs.parting.settle_parts.Given as goal

abbrev pub invariant-loop-before : goal.invariant-loop-before
invariant-loop-before l = record {
  free : IsFree l.tables l.query l.front.items;
  within : length l.front.items ≤ l.before;
}
