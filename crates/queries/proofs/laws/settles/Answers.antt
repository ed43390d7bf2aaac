-- By the length.
use Rattle.queries.proofs.laws.settles.Goals as goal
use Rattle.queries.proofs.Settling.{tidying_settles}

pub returns : goal.returns
returns c = tidying_settles
