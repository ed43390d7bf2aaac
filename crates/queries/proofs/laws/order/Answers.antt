-- By keys.
use Rattle.queries.proofs.laws.order.Goals as goal
use Rattle.queries.proofs.Ordered.{queries_ordered}

pub returns : goal.returns
returns c = queries_ordered
