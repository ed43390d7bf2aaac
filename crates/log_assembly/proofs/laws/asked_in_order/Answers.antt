use Rattle.certain_semantics.specs.Certain.{IsCertain}
use Rattle.log_assembly.proofs.InOrder.{asked_in_order}
use Rattle.log_assembly.proofs.laws.asked_in_order.Goals as goal

pub returns : goal.returns
returns c = λ axioms facts notes asked all. asked_in_order (IsCertain axioms facts) notes asked all
