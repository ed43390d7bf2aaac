-- The exit codes.
use Rattle.std.specs.Prelude.{ℕ}
use Rattle.onprom_core.specs.declared.status.Status.{Status}
use Rattle.onprom_core.specs.declared.status.Status.TheVariants.{Done, Conflict, Usage, Refused, Absent, ReadFault, WriteFault, ReportFault, Limit, NoMemory, NotAccepted}

abbrev pub code_of : Status → ℕ
code_of Done = 0
code_of Conflict = 1
code_of Usage = 2
code_of Refused = 3
code_of Absent = 4
code_of ReadFault = 5
code_of WriteFault = 6
code_of ReportFault = 7
code_of Limit = 8
code_of NoMemory = 9
code_of NotAccepted = 10
