-- Derived facts all stand in one chase.
use Rattle.certain_semantics.proofs.laws.derived.Goals as goal
use Rattle.certain_semantics.proofs.Witnessing.{certain_derived}

pub returns : goal.returns
returns c = certain_derived
