-- What the bindings give, those that are left give.
use Rattle.std.proofs.Common.{◌≡◌, drop}
use Rattle.query_subsumption.specs.Search.{reading}
use Rattle.query_subsumption.proofs.search.image_of.Given as goal

abbrev pub invariant-loop-b : goal.invariant-loop-b
invariant-loop-b l = reading (drop l.b-index l.bindings) (record { 0 = l.number }) ≡ reading l.bindings (record { 0 = l.number })
