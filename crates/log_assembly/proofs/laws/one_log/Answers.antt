use Rattle.certain_semantics.specs.Certain.{IsCertain}
use Rattle.log_assembly.proofs.OneLog.{one_log}
use Rattle.log_assembly.proofs.laws.one_log.Goals as goal

pub returns : goal.returns
returns c = λ axioms facts notes a b h k. one_log (IsCertain axioms facts) notes a b h k
