-- No query so far stands for the one at the place.
use Rattle.std.proofs.Common.{◌<◌}
use Rattle.query_subsumption.specs.Subsumption.{IsDropped}
use Rattle.query_subsumption.proofs.kept.is_dropped.Given as goal

abbrev pub invariant-loop-other : goal.invariant-loop-other
invariant-loop-other l = (d : IsDropped l.queries l.at) → d.other < l.other → ⊥
