-- No binding so far is of the number.
use Rattle.std.proofs.Common.{◌≢◌, take}
use Rattle.vocabulary.specs.Lists.{In}
use Rattle.query_subsumption.specs.declared.bindings.Binding.{Binding}
use Rattle.query_subsumption.proofs.bindings.known.Given as goal

abbrev pub invariant-loop-b : goal.invariant-loop-b
invariant-loop-b l = (b : Binding) → In b (take l.b-index l.bindings) → b.number ≢ l.number
