use Rattle.std.proofs.Common.{◌≡◌, ◌++◌, take}
use Rattle.log_assembly.specs.TheLog.{numbered}
use Rattle.log_assembly.proofs.entries.push_numbered.Given as goal

abbrev pub invariant-loop-at : goal.invariant-loop-at
invariant-loop-at l = l.out.items ≡ l.fn.out.items ++ numbered l.key 1 (take l.at l.values)
