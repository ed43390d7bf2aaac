use Rattle.project_language.proofs.Faults.{project_told, project_over_told}
use Rattle.project_language.proofs.laws.memory_is_no_fault.Goals as goal

pub returns-clause-alone : goal.returns-clause-alone
returns-clause-alone c = project_told

pub returns-clause-over : goal.returns-clause-over
returns-clause-over c = project_over_told
