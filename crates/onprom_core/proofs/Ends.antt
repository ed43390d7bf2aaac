-- What a run may claim of the ending that was decided and delivered.
use Rattle.std.proofs.Common.{◌≡◌, ◌≢◌, List, [], ℕ, refl, sym, ◌∙◌, Option, None, Some, ◌⊎◌, Result, Ok, Err, IfSome, inl, inr}
use Rattle.onprom_core.specs.declared.status.Status.{Status}
use Rattle.onprom_core.specs.declared.status.Status.TheVariants as status
use Rattle.onprom_core.specs.Causes.{IsWhole, CountsEnd}
use Rattle.outside.specs.Counts.{Rose}
use Rattle.onprom_core.specs.declared.halt.Stopped.{Stopped}
use Rattle.onprom_core.specs.Jobs.{Ending, IsEnd}
use Rattle.onprom_core.specs.Walk.{Files, Job, walk}
use Rattle.onprom_core.specs.Delivery.{Delivers, IsDecided, EndsAs, EndsCut, EndsReporting, EndsEarly, ReportsFault, EndsJob, Completes}

is_memory : (r : Status) → (r ≡ status.NoMemory) ⊎ (r ≢ status.NoMemory)
is_memory status.NoMemory = inl refl
is_memory status.Done = inr (λ x. cc)
is_memory status.Conflict = inr (λ x. cc)
is_memory status.Usage = inr (λ x. cc)
is_memory status.Refused = inr (λ x. cc)
is_memory status.Absent = inr (λ x. cc)
is_memory status.ReadFault = inr (λ x. cc)
is_memory status.WriteFault = inr (λ x. cc)
is_memory status.ReportFault = inr (λ x. cc)
is_memory status.Limit = inr (λ x. cc)
is_memory status.NotAccepted = inr (λ x. cc)

module _ (words : List (List ℕ)) (held : Option Files) (faults faults' absences absences' : ℕ) (e : Ending) (out out' report report' : Option (List ℕ)) (r : Status) (decided : IfSome held (λ files. IsDecided words files faults faults' absences absences' e)) (d : Delivers e out out' report report' r) where
  pub ends_from : IfSome held (λ files. r ≢ status.ReadFault → IsWhole r → EndsAs words files out out' report report' r)
  ends_from = by held decided
    where
      by : (h : Option Files) → IfSome h (λ files. IsDecided words files faults faults' absences absences' e) → IfSome h (λ files. r ≢ status.ReadFault → IsWhole r → EndsAs words files out out' report report' r)
      by None is = tt
      by (Some files) is = λ read whole.
          let w = d.whole whole in
          record { ending = e; first = is.first (λ same. read (w.0 ∙ same)); status = w.0; out = w.1; report = w.2 }

  pub written_from : (e.out ≡ [] → r ≢ status.WriteFault) → IfSome held (λ files. r ≡ status.WriteFault → EndsCut words files faults faults' absences absences' out out')
  written_from nothing = by held decided
    where
      by : (h : Option Files) → IfSome h (λ files. IsDecided words files faults faults' absences absences' e) → IfSome h (λ files. r ≡ status.WriteFault → EndsCut words files faults faults' absences absences' out out')
      by None is = tt
      by (Some files) is = λ fault. record { ending = e; decided = is; some = λ empty. nothing empty fault; out = (d.write_fault fault).0 }

  pub reporting_from : IfSome held (λ files. r ≡ status.ReportFault → EndsReporting words files faults faults' absences absences' out out' report report')
  reporting_from = by held decided
    where
      by : (h : Option Files) → IfSome h (λ files. IsDecided words files faults faults' absences absences' e) → IfSome h (λ files. r ≡ status.ReportFault → EndsReporting words files faults faults' absences absences' out out' report report')
      by None is = tt
      by (Some files) is = λ fault.
          let w = d.report_fault fault in
          record { ending = e; decided = is; out = w.0; report = w.1 }

  pub early_from : IfSome held (λ files. r ≡ status.NoMemory → EndsEarly words files faults faults' absences absences' out out' report report')
  early_from = by held decided
    where
      by : (h : Option Files) → IfSome h (λ files. IsDecided words files faults faults' absences absences' e) → IfSome h (λ files. r ≡ status.NoMemory → EndsEarly words files faults faults' absences absences' out out' report report')
      by None is = tt
      by (Some files) is = λ short. elim (d.no_memory short) [
        | inl w ↦ inr (inl (record { ending = e; decided = is; out = w.0 }, w.1))
        | inr w ↦ inr (inr (record { ending = e; decided = is; out = w.0; report = w.1 }))
      ]

  pub faulted_from : IfSome held (λ files. r ≡ status.ReadFault → ReportsFault (walk words files).begun report report')
  faulted_from = by held decided
    where
      by : (h : Option Files) → IfSome h (λ files. IsDecided words files faults faults' absences absences' e) → IfSome h (λ files. r ≡ status.ReadFault → ReportsFault (walk words files).begun report report')
      by None is = tt
      by (Some files) is = λ fault.
          let whole : IsWhole r = record { written = λ other. absurd cc; reported = λ other. absurd cc; memory = λ other. absurd cc } in
          let w = d.whole whole in
          let named = (is.fault (sym w.0 ∙ fault)).0 in
          (named.0, named.1, rw (← named.2) w.2)

  pub complete_from : (written written' reported reported' : ℕ) → CountsEnd faults faults' absences absences' e.status → (r ≡ status.WriteFault → Rose written written') → (r ≡ status.ReportFault → Rose reported reported') → IfSome held (λ files. Completes (walk words files).end faults faults' written written' reported reported' r)
  complete_from written written' reported reported' counts write report = by held decided
    where
      fault : r ≡ status.ReadFault → Rose faults faults'
      fault same =
          let w = d.whole (record { written = λ other. absurd cc; reported = λ other. absurd cc; memory = λ other. absurd cc }) in
          counts.fault (sym w.0 ∙ same)

      done : (files : Files) → IsDecided words files faults faults' absences absences' e → IsWhole r → r ≢ status.ReadFault → (job : Job) → (walk words files).end ≡ Ok job → EndsJob job r
      done files is whole read job walked =
          let w = d.whole whole in
          let first : IsEnd (walk words files).end e = is.first (λ other. read (w.0 ∙ other)) in
          let ended : IsEnd (Ok job) e = rw walked at first in
          (e, ended, w.0)

      answered : (files : Files) → IsDecided words files faults faults' absences absences' e → (job : Job) → (walk words files).end ≡ Ok job → (Rose faults faults' → ⊥) → (Rose written written' → ⊥) → (Rose reported reported' → ⊥) → EndsJob job r ⊎ (r ≡ status.NoMemory)
      answered files is job walked f o p = elim (is_memory r) [
        | inl short ↦ inr short
        | inr more ↦ inl (done files is (record { written = λ same. o (write same); reported = λ same. p (report same); memory = more }) (λ same. f (fault same)) job walked)
      ]

      by : (h : Option Files) → IfSome h (λ files. IsDecided words files faults faults' absences absences' e) → IfSome h (λ files. Completes (walk words files).end faults faults' written written' reported reported' r)
      by None is = tt
      by (Some files) is = at (walk words files).end refl
        where
          at : (o : Result Job Stopped) → (walk words files).end ≡ o → Completes o faults faults' written written' reported reported' r
          at (Err stopped) walked = tt
          at (Ok job) walked = λ f o p. answered files is job walked f o p
