use Rattle.std.proofs.Common.{take}
use Rattle.identification_check.specs.Chained.{AreChained}
use Rattle.identification_check.proofs.chaining.chained.Given as goal

abbrev pub invariant-loop-fact : goal.invariant-loop-fact
invariant-loop-fact l = AreChained l.downs.axioms l.mappings l.tables (take l.fact-index l.facts) l.violation
