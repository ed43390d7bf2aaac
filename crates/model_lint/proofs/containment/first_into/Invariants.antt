-- No query so far maps into it.
use Rattle.std.proofs.Common.{take}
use Rattle.vocabulary.specs.Lists.{In}
use Rattle.queries.specs.declared.query.Query.{Query}
use Rattle.query_subsumption.specs.Subsumption.{MapsInto}
use Rattle.model_lint.proofs.containment.first_into.Given as goal

abbrev pub invariant-loop-at : goal.invariant-loop-at
invariant-loop-at l = (q : Query) → In q (take l.at l.queries) → MapsInto q l.special → ⊥
