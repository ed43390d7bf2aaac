use Rattle.source_tables.proofs.Faults.{memory_is_no_fault}
use Rattle.source_tables.proofs.laws.memory_is_no_fault.Goals as goal

pub returns : goal.returns
returns c = memory_is_no_fault
