-- What is kept so far, before what is kept of the rest.
use Rattle.std.proofs.Common.{List, ◌++◌, drop}
use Rattle.queries.specs.declared.query.Query.{Query}
use Rattle.query_subsumption.specs.Subsumption.{AreKept, KeptFrom}
use Rattle.query_subsumption.proofs.kept.kept_of.Given as goal

abbrev pub invariant-loop-at : goal.invariant-loop-at
invariant-loop-at l = (more : List Query) → KeptFrom l.queries l.at (drop l.at l.queries) more → AreKept l.queries (l.out.items ++ more)
