-- Counts of what went wrong outside, and what each call does to them.
use Rattle.std.specs.Prelude.{◌≡◌, ◌≢◌, Ok, Err, ℕ, ◌+◌, ◌-◌, ◌^◌, ◌≤◌, Bool, false, min, Result, OnOk, OnErr}
use Rattle.outside.specs.declared.shelf.Failed.{Failed}
use Rattle.outside.specs.declared.sink.Stop.{Stop}
use Rattle.outside.specs.declared.sink.Stop.TheVariants as stop
use Rattle.outside.specs.declared.read.FileFault.{FileFault}
use Rattle.outside.specs.declared.read.FileFault.TheVariants as fault

-- one more, or the last value of a counter of 64 bits
abbrev pub next_count : ℕ → ℕ
next_count n = min (n + 1) (2 ^ 64 - 1)

-- the count is greater now, or stands at its last value
abbrev pub Rose : ℕ → ℕ → Type 0
Rose before now = next_count before ≤ now

-- beginning a file raises the faults exactly with Failed, and the absences exactly with false
pub record CountsBegin (faults faults' absences absences' : ℕ) (result : Result Bool Failed) : Type 0 where
  pub faults_later : faults ≤ faults'
  pub absences_later : absences ≤ absences'
  pub failed : OnErr result (Rose faults faults')
  pub no_fault : OnOk result (faults' ≡ faults)
  pub absent : result ≡ Ok false → Rose absences absences'
  pub no_absence : result ≢ Ok false → absences' ≡ absences

-- reading on raises the faults exactly with Failed
pub record CountsRead (faults faults' absences absences' : ℕ) (result : Result ℕ Failed) : Type 0 where
  pub faults_later : faults ≤ faults'
  pub absences_same : absences' ≡ absences
  pub failed : OnErr result (Rose faults faults')
  pub no_fault : OnOk result (faults' ≡ faults)

-- writing raises the faults exactly with Failed
pub record CountsWrite {T : Type 0} (faults faults' : ℕ) (result : Result T Stop) : Type 0 where
  pub faults_later : faults ≤ faults'
  pub failed : result ≡ Err stop.Failed → Rose faults faults'
  pub no_fault : result ≢ Err stop.Failed → faults' ≡ faults

-- reading a whole file raises the faults exactly with Read, and the absences exactly with Absent
pub record CountsFile {T : Type 0} (faults faults' absences absences' : ℕ) (result : Result T FileFault) : Type 0 where
  pub faults_later : faults ≤ faults'
  pub absences_later : absences ≤ absences'
  pub read : result ≡ Err fault.Read → Rose faults faults'
  pub no_fault : result ≢ Err fault.Read → faults' ≡ faults
  pub absent : result ≡ Err fault.Absent → Rose absences absences'
  pub no_absence : result ≢ Err fault.Absent → absences' ≡ absences
