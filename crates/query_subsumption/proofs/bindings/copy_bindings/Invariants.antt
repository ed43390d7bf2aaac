-- The copies so far.
use Rattle.std.proofs.Common.{◌≡◌, take}
use Rattle.query_subsumption.proofs.bindings.copy_bindings.Given as goal

abbrev pub invariant-loop-b : goal.invariant-loop-b
invariant-loop-b l = l.out.items ≡ take l.b-index l.bindings
