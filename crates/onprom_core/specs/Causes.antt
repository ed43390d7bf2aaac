-- Which answer may come only where which count rose, and with which line.
use Rattle.std.specs.Prelude.{◌≡◌, ◌≢◌, ℕ, ◌≤◌, Bool, IsTrue, Result, IfErr, OnOk, List, Contains}
use Rattle.outside.specs.Counts.{Rose}
use Rattle.onprom_core.specs.Lines.{usage_line, absent_line, fault_line}
use Rattle.onprom_core.specs.declared.status.Status.{Status}
use Rattle.onprom_core.specs.declared.status.Status.TheVariants as status
use Rattle.onprom_core.specs.declared.halt.Halt.{Halt}
use Rattle.onprom_core.specs.declared.halt.Halt.TheVariants as halt

-- no write failed and memory sufficed
pub record IsWhole (s : Status) : Type 0 where
  pub written : s ≢ status.WriteFault
  pub reported : s ≢ status.ReportFault
  pub memory : s ≢ status.NoMemory

-- what the line of a status says, whatever the shelf tells
pub record SaysLine (s : Status) (line : List ℕ) : Type 0 where
  pub usage : s ≡ status.Usage → line ≡ usage_line
  pub absent : s ≡ status.Absent → (name : List ℕ) × (line ≡ absent_line name)
  pub fault : s ≡ status.ReadFault → (name : List ℕ) × (line ≡ fault_line name)

-- what a halt says of the counts of a shelf, and whether its last call failed
abbrev pub CountsHalt : Halt → ℕ → ℕ → ℕ → ℕ → Bool → Type 0
CountsHalt (halt.Stopped stopped) faults faults' absences absences' failed' = IsWhole stopped.status × (stopped.status ≢ status.ReadFault) × (stopped.status ≢ status.Done) × SaysLine stopped.status stopped.line × (faults' ≡ faults) × (stopped.status ≡ status.Absent → Rose absences absences') × (stopped.status ≢ status.Absent → absences' ≡ absences)
CountsHalt (halt.ReadFault name) faults faults' absences absences' failed' = Rose faults faults' × (absences' ≡ absences) × IsTrue failed'
CountsHalt halt.NoMemory faults faults' absences absences' failed' = faults' ≢ faults → IsTrue failed'

-- a halt that no call on the shelf made
abbrev pub IsLocal : Halt → Type 0
IsLocal (halt.Stopped stopped) = IsWhole stopped.status × (stopped.status ≢ status.ReadFault) × (stopped.status ≢ status.Done) × (stopped.status ≢ status.Absent) × SaysLine stopped.status stopped.line
IsLocal (halt.ReadFault name) = ⊥
IsLocal halt.NoMemory = Unit {0}

-- the run stops for want of a command
abbrev pub SaysUsage : Halt → Type 0
SaysUsage (halt.Stopped stopped) = stopped.status ≡ status.Usage
SaysUsage (halt.ReadFault name) = ⊥
SaysUsage halt.NoMemory = ⊥

-- or for want of memory
abbrev pub SaysUsageAtMost : Halt → Type 0
SaysUsageAtMost (halt.Stopped stopped) = stopped.status ≡ status.Usage
SaysUsageAtMost (halt.ReadFault name) = ⊥
SaysUsageAtMost halt.NoMemory = Unit {0}

-- a reading of files
pub record CountsReading {T : Type 0} (faults faults' absences absences' : ℕ) (failed' : Bool) (result : Result T Halt) : Type 0 where
  pub faults_later : faults ≤ faults'
  pub absences_later : absences ≤ absences'
  pub no_fault : OnOk result (faults' ≡ faults)
  pub no_absence : OnOk result (absences' ≡ absences)
  pub halted : IfErr result (λ h. CountsHalt h faults faults' absences absences' failed')

-- the counts of a shelf over the reading for a run that ends so
pub record CountsEnd (faults faults' absences absences' : ℕ) (s : Status) : Type 0 where
  pub fault : s ≡ status.ReadFault → Rose faults faults'
  pub no_fault : s ≢ status.ReadFault → faults' ≡ faults
  pub absent : s ≡ status.Absent → Rose absences absences'
  pub no_absence : s ≢ status.Absent → absences' ≡ absences

-- the line names one of the files that are begun
abbrev pub NamesFault : List (List ℕ) → List ℕ → Type 0
NamesFault begun line = (name : List ℕ) × Contains begun name × (line ≡ fault_line name)
