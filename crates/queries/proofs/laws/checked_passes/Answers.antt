-- By `Passing`.
use Rattle.queries.proofs.laws.checked_passes.Goals as goal
use Rattle.queries.proofs.Passing.{checked_passes}

pub returns : goal.returns
returns c = checked_passes
