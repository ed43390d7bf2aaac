-- What was written of an ending.
use Rattle.std.specs.Prelude.{◌≡◌, ◌≢◌, ◌⊎◌, ℕ, false, List, [], Option, Result, Ok, Err, Contains}
use Rattle.outside.specs.Counts.{Rose}
use Rattle.onprom_core.specs.declared.halt.Stopped.{Stopped}
use Rattle.std.specs.Io.KnownBytes.{Appends, Keeps}
use Rattle.outside.specs.Written.{AppendsFront}
use Rattle.onprom_core.specs.declared.status.Status.{Status}
use Rattle.onprom_core.specs.declared.status.Status.TheVariants as status
use Rattle.onprom_core.specs.Causes.{CountsEnd, IsWhole, NamesFault}
use Rattle.onprom_core.specs.Commands.{is_check}
use Rattle.onprom_core.specs.Lines.{fault_line}
use Rattle.onprom_core.specs.Jobs.{Ending, IsEnd, IsJobEnd}
use Rattle.onprom_core.specs.Walk.{Files, Job, walk}

-- the first end for these words and files
abbrev pub IsFirstEnd : List (List ℕ) → Files → Ending → Type 0
IsFirstEnd words files e = IsEnd (walk words files).end e

-- all of it, a front of its text, or its text and a front of its report
pub record Delivers (e : Ending) (out out' report report' : Option (List ℕ)) (result : Status) : Type 0 where
  pub whole : IsWhole result → (result ≡ e.status) × Appends out out' e.out × Appends report report' e.report
  pub write_fault : result ≡ status.WriteFault → AppendsFront out out' e.out × Keeps report report'
  pub report_fault : result ≡ status.ReportFault → Appends out out' e.out × AppendsFront report report' e.report
  pub no_memory : result ≡ status.NoMemory → (AppendsFront out out' e.out × Keeps report report') ⊎ (Appends out out' e.out × AppendsFront report report' e.report)

-- an ending that a run may come to before it writes: the first end, or a fault of the shelf at a file that the walk begins;
-- it comes only where the counts of the shelf say so
pub record IsDecided (words : List (List ℕ)) (files : Files) (faults faults' absences absences' : ℕ) (e : Ending) : Type 0 where
  pub first : e.status ≢ status.ReadFault → IsFirstEnd words files e
  pub fault : e.status ≡ status.ReadFault → NamesFault (walk words files).begun e.report × (e.out ≡ [])
  pub counts : CountsEnd faults faults' absences absences' e.status

-- an ending that is done is the end of the job to which the walk comes
abbrev pub ComesToJob : List (List ℕ) → Files → Ending → Type 0
ComesToJob words files e = e.status ≡ status.Done → (job : Job) × ((walk words files).end ≡ Ok job) × IsJobEnd job e

-- all of its text, and a front of its report
pub record EndsReporting (words : List (List ℕ)) (files : Files) (faults faults' absences absences' : ℕ) (written written' reported reported' : Option (List ℕ)) : Type 0 where
  pub ending : Ending
  pub decided : IsDecided words files faults faults' absences absences' ending
  pub out : Appends written written' ending.out
  pub report : AppendsFront reported reported' ending.report

-- a front of the text of the ending, which has one
pub record EndsCut (words : List (List ℕ)) (files : Files) (faults faults' absences absences' : ℕ) (written written' : Option (List ℕ)) : Type 0 where
  pub ending : Ending
  pub decided : IsDecided words files faults faults' absences absences' ending
  pub some : ending.out ≢ []
  pub out : AppendsFront written written' ending.out

-- a front of the text of the ending
pub record EndsWithin (words : List (List ℕ)) (files : Files) (faults faults' absences absences' : ℕ) (written written' : Option (List ℕ)) : Type 0 where
  pub ending : Ending
  pub decided : IsDecided words files faults faults' absences absences' ending
  pub out : AppendsFront written written' ending.out

-- nothing, or a front of its text, or its text and a front of its report
abbrev pub EndsEarly : List (List ℕ) → Files → ℕ → ℕ → ℕ → ℕ → Option (List ℕ) → Option (List ℕ) → Option (List ℕ) → Option (List ℕ) → Type 0
EndsEarly words files faults faults' absences absences' written written' reported reported' =
    (Keeps written written' × Keeps reported reported')
    ⊎ (EndsWithin words files faults faults' absences absences' written written' × Keeps reported reported')
    ⊎ EndsReporting words files faults faults' absences absences' written written' reported reported'

-- the line of a read fault names a file that the walk begins
abbrev pub ReportsFault : List (List ℕ) → Option (List ℕ) → Option (List ℕ) → Type 0
ReportsFault begun reported reported' = (name : List ℕ) × Contains begun name × Appends reported reported' (fault_line name)

-- the report grew by this line of some file
abbrev pub NamesFile : (List ℕ → List ℕ) → Option (List ℕ) → Option (List ℕ) → Type 0
NamesFile line reported reported' = (name : List ℕ) × Appends reported reported' (line name)

-- what a run wrote of its first end, where it was not cut short
pub record EndsAs (words : List (List ℕ)) (files : Files) (written written' reported reported' : Option (List ℕ)) (result : Status) : Type 0 where
  pub ending : Ending
  pub first : IsFirstEnd words files ending
  pub status : result ≡ ending.status
  pub out : Appends written written' ending.out
  pub report : Appends reported reported' ending.report

-- the statuses that come only with an unchanged output; a conflict has its derivations there for `check` alone
abbrev pub KeepsOut : List (List ℕ) → Status → Option (List ℕ) → Option (List ℕ) → Type 0
KeepsOut words status.Done old new = Unit {0}
KeepsOut words status.WriteFault old new = Unit {0}
KeepsOut words status.ReportFault old new = Unit {0}
KeepsOut words status.NoMemory old new = Unit {0}
KeepsOut words status.Conflict old new = is_check words ≡ false → Keeps old new
KeepsOut words status.Usage old new = Keeps old new
KeepsOut words status.Refused old new = Keeps old new
KeepsOut words status.Absent old new = Keeps old new
KeepsOut words status.ReadFault old new = Keeps old new
KeepsOut words status.Limit old new = Keeps old new
KeepsOut words status.NotAccepted old new = Keeps old new

-- the job ends with this status
abbrev pub EndsJob : Job → Status → Type 0
EndsJob job result = (e : Ending) × IsJobEnd job e × (result ≡ e.status)

-- where the walk comes to its job and no count of faults rises, the job comes to its end, unless memory is short
abbrev pub Completes : Result Job Stopped → (faults faults' written written' reported reported' : ℕ) → Status → Type 0
Completes (Err stopped) faults faults' written written' reported reported' result = Unit {0}
Completes (Ok job) faults faults' written written' reported reported' result =
    (Rose faults faults' → ⊥) → (Rose written written' → ⊥) → (Rose reported reported' → ⊥) → EndsJob job result ⊎ (result ≡ status.NoMemory)

-- Usage, unless the report fails or memory is short
abbrev pub AnswersNoCommand : Status → Type 0
AnswersNoCommand status.Usage = Unit {0}
AnswersNoCommand status.ReportFault = Unit {0}
AnswersNoCommand status.NoMemory = Unit {0}
AnswersNoCommand status.Done = ⊥
AnswersNoCommand status.Conflict = ⊥
AnswersNoCommand status.Refused = ⊥
AnswersNoCommand status.Absent = ⊥
AnswersNoCommand status.ReadFault = ⊥
AnswersNoCommand status.WriteFault = ⊥
AnswersNoCommand status.Limit = ⊥
AnswersNoCommand status.NotAccepted = ⊥
