-- By keys.
use Rattle.queries.proofs.laws.order_of_tuples.Goals as goal
use Rattle.queries.proofs.Ordered.{tuples_ordered}

pub returns : goal.returns
returns c = tuples_ordered
