use Rattle.derivation_text.proofs.Faults.{memory_is_no_fault}
use Rattle.derivation_text.proofs.laws.memory_is_no_fault.Goals as goal

pub returns : goal.returns
returns c = memory_is_no_fault
