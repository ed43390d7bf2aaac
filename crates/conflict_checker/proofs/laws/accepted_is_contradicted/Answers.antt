use Rattle.conflict_checker.proofs.Contradicted.{accepted_is_contradicted}
use Rattle.conflict_checker.proofs.laws.accepted_is_contradicted.Goals as goal

pub returns : goal.returns
returns c = accepted_is_contradicted
