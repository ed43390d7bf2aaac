-- What runs of `check` and of `verify` write for a project that is read.
use Rattle.std.proofs.Common.{◌≡◌, ◌≢◌, refl, sym, subst, ap, ◌∙◌, List, ℕ, [], ◌∷◌, codes, Option, None, Some, IfSome, Ok, ◌⊎◌, inl, inr}
use Rattle.std.specs.Io.KnownBytes.{Appends}
use Rattle.vocabulary.specs.Lists.{In, here}
use Rattle.vocabulary.proofs.Lists.{In-append_right}
use Rattle.source_tables.specs.Tables.{Loaded}
use Rattle.conflict_checker.specs.declared.derivation.Derivation.{Derivation}
use Rattle.project_language.specs.declared.project.Project.{Project}
use Rattle.onprom_core.specs.declared.status.Status.{Status}
use Rattle.onprom_core.specs.declared.status.Status.TheVariants as status
use Rattle.onprom_core.specs.Causes.{IsWhole}
use Rattle.onprom_core.specs.Commands.{Check, Verify}
use Rattle.onprom_core.specs.Delivery.{ComesToJob, Completes, Delivers, EndsAs, EndsJob}
use Rattle.onprom_core.specs.Headline.{AreReadDerivations, Checks, ChecksSoundly, IsQuiet, IsReadProject, TellsAccepted, TellsConsistency, TellsRefused, Verifies, VerifiesSoundly, WritesContradictions}
use Rattle.onprom_core.specs.Jobs.{Ending, EndsCheck, EndsVerification, IsJobEnd, accepted, consistent, contradicted, refused}
use Rattle.onprom_core.specs.Meaning.{AreAccepted, IsConsistentProject}
use Rattle.onprom_core.proofs.Headlines.{Keeps-of, file_held, onward, tables_read, text_walked}
use Rattle.onprom_core.proofs.WalksBack.{checked, verified}
use Rattle.onprom_core.specs.Walk.{Files, Job, Checking, Verifying, check_step, command_step, file_step, job_step, project_step, sources_step, spell_step, verify_step, walk}

-- the project of a file is read
pub project_walked : (files : Files) (p : List ℕ) (project : Project) (tables : List Loaded) → IsReadProject files p project tables → (project_step files p).end ≡ Ok project
project_walked files p project tables a = text_walked files p a.bytes project a.held a.read

pub sources_walked : (files : Files) (p : List ℕ) (project : Project) (tables : List Loaded) → IsReadProject files p project tables → (sources_step files project).end ≡ Ok tables
sources_walked files p project tables a = tables_read files 0 project.sources.tables tables a.loaded

check_walked : (files : Files) (p : List ℕ) (project : Project) (tables : List Loaded) → IsReadProject files p project tables → (walk (codes "check" ∷ p ∷ []) files).end ≡ Ok (Checking project tables)
unfolding walk check_step
check_walked files p project tables a =
    onward (command_step (codes "check" ∷ p ∷ [])) (job_step files) (Check p) _ refl
    (onward (project_step files p) _ project _ (project_walked files p project tables a)
    (onward (sources_step files project) _ tables _ (sources_walked files p project tables a) refl))

verify_walked : (files : Files) (p d : List ℕ) (project : Project) (tables : List Loaded) (ds : List Derivation) → IsReadProject files p project tables → AreReadDerivations files project d ds
    → (walk (codes "verify" ∷ p ∷ d ∷ []) files).end ≡ Ok (Verifying project tables ds)
unfolding walk verify_step
verify_walked files p d project tables ds a r =
    onward (command_step (codes "verify" ∷ p ∷ d ∷ [])) (job_step files) (Verify p d) _ refl
    (onward (project_step files p) _ project _ (project_walked files p project tables a)
    (onward (sources_step files project) _ tables _ (sources_walked files p project tables a)
    (onward (file_step files d) _ r.bytes _ (file_held files d r.bytes r.held)
    (onward (spell_step project d r.bytes) _ ds _ (rw (r.utf8, r.read) refl) refl))))

-- neither ends with a failed call
pub ends_well : (r s : Status) → r ≡ s → s ≢ status.WriteFault → s ≢ status.ReportFault → s ≢ status.NoMemory → s ≢ status.ReadFault → IsWhole r × (r ≢ status.ReadFault)
ends_well r s same w o m f = rw same (record { written = w; reported = o; memory = m }, f)

check_whole : (project : Project) (tables : List Loaded) (e : Ending) (r : Status) → EndsCheck project tables e → r ≡ e.status → IsWhole r × (r ≢ status.ReadFault)
check_whole project tables e r (consistent agrees is) same = ends_well r status.Done (same ∙ ap (λ e. e.status) is) (λ x. cc) (λ x. cc) (λ x. cc) (λ x. cc)
check_whole project tables e r (contradicted clash ds are back is) same = ends_well r status.Conflict (same ∙ ap (λ e. e.status) is) (λ x. cc) (λ x. cc) (λ x. cc) (λ x. cc)

verify_whole : (project : Project) (tables : List Loaded) (ds : List Derivation) (e : Ending) (r : Status) → EndsVerification project tables ds e → r ≡ e.status → IsWhole r × (r ≢ status.ReadFault)
verify_whole project tables ds e r (accepted all is) same = ends_well r status.Done (same ∙ ap (λ e. e.status) is) (λ x. cc) (λ x. cc) (λ x. cc) (λ x. cc)
verify_whole project tables ds e r (refused before d behind parts all not is) same = ends_well r status.NotAccepted (same ∙ ap (λ e. e.status) is) (λ x. cc) (λ x. cc) (λ x. cc) (λ x. cc)

module _ (out out' report report' : Option (List ℕ)) (r : Status) (e : Ending) (same : r ≡ e.status) (written : Appends out out' e.out) (reported : Appends report report' e.report) where
  consistency_told : (project : Project) (tables : List Loaded) → EndsCheck project tables e → IsConsistentProject project tables → TellsConsistency out out' report report' r
  consistency_told project tables (consistent agrees is) agreed = record {
    done = same ∙ ap (λ e. e.status) is;
    unwritten = Keeps-of out out' (subst (Appends out out') (ap (λ e. e.out) is) written);
    reported = subst (Appends report report') (ap (λ e. e.report) is) reported;
  }
  consistency_told project tables (contradicted clash ds are back is) agreed = absurd (clash agreed)

  contradictions_written : (project : Project) (tables : List Loaded) → EndsCheck project tables e → (IsConsistentProject project tables → ⊥) → WritesContradictions project tables out out' report report' r
  contradictions_written project tables (consistent agrees is) clash = absurd (clash agrees)
  contradictions_written project tables (contradicted other ds are back is) clash = record {
    conflict = same ∙ ap (λ e. e.status) is;
    derivations = ds;
    accepted = are;
    read_back = back;
    written = subst (Appends out out') (ap (λ e. e.out) is) written;
    reported = subst (Appends report report') (ap (λ e. e.report) is) reported;
  }

  acceptance_told : (project : Project) (tables : List Loaded) (ds : List Derivation) → EndsVerification project tables ds e → AreAccepted project tables ds → TellsAccepted ds out out' report report' r
  acceptance_told project tables ds (accepted all is) agreed = record {
    done = same ∙ ap (λ e. e.status) is;
    unwritten = Keeps-of out out' (subst (Appends out out') (ap (λ e. e.out) is) written);
    reported = subst (Appends report report') (ap (λ e. e.report) is) reported;
  }
  acceptance_told project tables ds (refused before d behind parts all not is) agreed = absurd (not (agreed d (subst (In d) (sym parts) (In-append_right before (here refl)))))

  refusal_told : (project : Project) (tables : List Loaded) (ds : List Derivation) → EndsVerification project tables ds e → (AreAccepted project tables ds → ⊥) → TellsRefused project tables ds out out' report report' r
  refusal_told project tables ds (accepted all is) other = absurd (other all)
  refusal_told project tables ds (refused before d behind parts all not is) other = record {
    not_accepted = same ∙ ap (λ e. e.status) is;
    unwritten = Keeps-of out out' (subst (Appends out out') (ap (λ e. e.out) is) written);
    before = before;
    first = d;
    behind = behind;
    parts = parts;
    accepted = all;
    refused = not;
    reported = subst (Appends report report') (ap (λ e. e.report) is) reported;
  }

module _ (words : List (List ℕ)) (faults faults' written written' reported reported' : ℕ) (out out' report report' : Option (List ℕ)) (r : Status) where
  -- what was written is of the end of the job
  pub told : (files : Files) (job : Job) → (walk words files).end ≡ Ok job → (r ≢ status.ReadFault → IsWhole r → EndsAs words files out out' report report' r) → Completes (walk words files).end faults faults' written written' reported reported' r
      → IsQuiet faults faults' written written' reported reported' → r ≢ status.NoMemory → ((e : Ending) → IsJobEnd job e → r ≡ e.status → IsWhole r × (r ≢ status.ReadFault))
      → (e : Ending) × IsJobEnd job e × (r ≡ e.status) × Appends out out' e.out × Appends report report' e.report
  told files job walked ends complete quiet memory whole = by (rw walked at complete quiet.read quiet.wrote quiet.told)
    where
      by : EndsJob job r ⊎ (r ≡ status.NoMemory) → (e : Ending) × IsJobEnd job e × (r ≡ e.status) × Appends out out' e.out × Appends report report' e.report
      by (inr short) = absurd (memory short)
      by (inl ended) =
          let free = whole ended.0 ended.1 ended.2 in
          let t = ends free.1 free.0 in
          (t.ending, rw walked at t.first, t.status, t.out, t.report)

  checks : (files : Files) → (r ≢ status.ReadFault → IsWhole r → EndsAs words files out out' report report' r) → Completes (walk words files).end faults faults' written written' reported reported' r
      → Checks words files faults faults' written written' reported reported' out out' report report' r
  checks files ends complete p project tables named a quiet memory =
      let t = told files (Checking project tables) (rw named (check_walked files p project tables a)) ends complete quiet memory (λ e end same. check_whole project tables e r end same) in
      (consistency_told out out' report report' r t.0 t.2 t.3 t.4 project tables t.1, contradictions_written out out' report report' r t.0 t.2 t.3 t.4 project tables t.1)

  verifies : (files : Files) → (r ≢ status.ReadFault → IsWhole r → EndsAs words files out out' report report' r) → Completes (walk words files).end faults faults' written written' reported reported' r
      → Verifies words files faults faults' written written' reported reported' out out' report report' r
  verifies files ends complete p d project tables ds named a read quiet memory =
      let t = told files (Verifying project tables ds) (rw named (verify_walked files p d project tables ds a read)) ends complete quiet memory (λ e end same. verify_whole project tables ds e r end same) in
      (acceptance_told out out' report report' r t.0 t.2 t.3 t.4 project tables ds t.1, refusal_told out out' report report' r t.0 t.2 t.3 t.4 project tables ds t.1)

  pub checks_from : (held : Option Files) → IfSome held (λ files. r ≢ status.ReadFault → IsWhole r → EndsAs words files out out' report report' r)
      → IfSome held (λ files. Completes (walk words files).end faults faults' written written' reported reported' r)
      → IfSome held (λ files. Checks words files faults faults' written written' reported reported' out out' report report' r)
  checks_from None ends complete = tt
  checks_from (Some files) ends complete = checks files ends complete

  pub verifies_from : (held : Option Files) → IfSome held (λ files. r ≢ status.ReadFault → IsWhole r → EndsAs words files out out' report report' r)
      → IfSome held (λ files. Completes (walk words files).end faults faults' written written' reported reported' r)
      → IfSome held (λ files. Verifies words files faults faults' written written' reported reported' out out' report report' r)
  verifies_from None ends complete = tt
  verifies_from (Some files) ends complete = verifies files ends complete

module _ (words : List (List ℕ)) (out out' report report' : Option (List ℕ)) (r : Status) (e : Ending) where
  -- a check that is done
  check_done : (files : Files) (p : List ℕ) (project : Project) (tables : List Loaded) → EndsCheck project tables e → r ≡ e.status → r ≡ status.Done → Appends out out' e.out → Appends report report' e.report → IsReadProject files p project tables
      → (project : Project) × (tables : List Loaded) × IsReadProject files p project tables × IsConsistentProject project tables × TellsConsistency out out' report report' r
  check_done files p project tables (consistent agrees is) same done written reported read =
      (project, tables, read, agrees, consistency_told out out' report report' r e same written reported project tables (consistent agrees is) agrees)
  check_done files p project tables (contradicted clash ds are back is) same done written reported read = let other : status.Done ≡ status.Conflict = sym done ∙ same ∙ ap (λ e. e.status) is in absurd cc

  -- a verification that is done
  verify_done : (files : Files) (p d : List ℕ) (project : Project) (tables : List Loaded) (ds : List Derivation) → EndsVerification project tables ds e → r ≡ e.status → r ≡ status.Done → Appends out out' e.out → Appends report report' e.report
      → IsReadProject files p project tables → AreReadDerivations files project d ds
      → (project : Project) × (tables : List Loaded) × (ds : List Derivation) × IsReadProject files p project tables × AreReadDerivations files project d ds × AreAccepted project tables ds × TellsAccepted ds out out' report report' r
  verify_done files p d project tables ds (accepted all is) same done written reported read given =
      (project, tables, ds, read, given, all, acceptance_told out out' report report' r e same written reported project tables ds (accepted all is) all)
  verify_done files p d project tables ds (refused before first behind parts all not is) same done written reported read given =
      let other : status.Done ≡ status.NotAccepted = sym done ∙ same ∙ ap (λ e. e.status) is in absurd cc

  checks_done : (files : Files) → ComesToJob words files e → Delivers e out out' report report' r → ChecksSoundly words files out out' report report' r
  checks_done files comes d p named done =
      let w = d.whole (rw done (record { written = λ x. cc; reported = λ x. cc; memory = λ x. cc })) in
      let job = comes (sym w.0 ∙ done) in
      let a = checked files p job.0 (rw named at job.1) in
      check_done files p a.0 a.1 (rw a.3 at job.2) w.0 done w.1 w.2 a.2

  verifies_done : (files : Files) → ComesToJob words files e → Delivers e out out' report report' r → VerifiesSoundly words files out out' report report' r
  verifies_done files comes delivered p d named done =
      let w = delivered.whole (rw done (record { written = λ x. cc; reported = λ x. cc; memory = λ x. cc })) in
      let job = comes (sym w.0 ∙ done) in
      let a = verified files p d job.0 (rw named at job.1) in
      verify_done files p d a.0 a.1 a.2 (rw a.5 at job.2) w.0 done w.1 w.2 a.3 a.4

  pub checks_soundly_from : (held : Option Files) → IfSome held (λ files. ComesToJob words files e) → Delivers e out out' report report' r → IfSome held (λ files. ChecksSoundly words files out out' report report' r)
  checks_soundly_from None comes d = tt
  checks_soundly_from (Some files) comes d = checks_done files comes d

  pub verifies_soundly_from : (held : Option Files) → IfSome held (λ files. ComesToJob words files e) → Delivers e out out' report report' r → IfSome held (λ files. VerifiesSoundly words files out out' report report' r)
  verifies_soundly_from None comes d = tt
  verifies_soundly_from (Some files) comes d = verifies_done files comes d
