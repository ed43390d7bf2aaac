-- What a run of `extract` writes for an accepted project.
use Rattle.std.proofs.Common.{◌≡◌, ◌≢◌, refl, sym, subst, ap, arith, ◌∙◌, List, ℕ, [], ◌∷◌, ◌+◌, ◌≤◌, nat_lt, false, codes, length, Option, None, Some, IfSome, Ok, ◌⊎◌, inl, inr}
use Rattle.std.specs.Io.KnownBytes.{Appends, Keeps}
use Rattle.std.proofs.lemmas.List.{append-nil}
use Rattle.line_lexer.specs.Faults.{limit_of}
use Rattle.line_lexer.specs.declared.fault.Counted.TheVariants.{File, TablesTogether}
use Rattle.source_tables.specs.declared.decl.TableDecl.{TableDecl}
use Rattle.source_tables.specs.Tables.{Loaded, table_of}
use Rattle.owl_functional.specs.declared.ontology.Ontology.{Ontology}
use Rattle.project_language.specs.Project.{ontology_file}
use Rattle.project_language.specs.declared.project.Project.{Project}
use Rattle.onprom_core.specs.declared.status.Status.{Status}
use Rattle.onprom_core.specs.declared.status.Status.TheVariants as status
use Rattle.onprom_core.specs.Causes.{IsWhole}
use Rattle.onprom_core.specs.Commands.{Extract}
use Rattle.onprom_core.specs.Delivery.{ComesToJob, Completes, Delivers, EndsAs, EndsJob}
use Rattle.onprom_core.specs.Headline.{AreTables, Extracts, ExtractsSoundly, IsAcceptedProject, IsGiven, IsHeld, IsText, ReportsContradictions, TellsWidth, WritesLog}
use Rattle.onprom_core.specs.Jobs.{EndsExtraction, Ending, extracted, too_wide, contradicted}
use Rattle.onprom_core.specs.Meaning.{IsConsistentProject, IsWide}
use Rattle.onprom_core.specs.Steps.{Step, ◌>>=◌}
use Rattle.onprom_core.proofs.WalksBack.{accepted}
use Rattle.onprom_core.specs.Walk.{Files, Extracting, command_step, complete_step, extract_step, file_step, given_step, job_step, one_table, project_step, sources_step, tables_step, walk}

not_past : (limit n : ℕ) → n ≤ limit → nat_lt limit n ≡ false
not_past limit n within = grind arith

pub onward : {A B : Type 0} (m : Step A) (f : A → Step B) (v : A) (w : B) → m.end ≡ Ok v → (f v).end ≡ Ok w → (m >>= f).end ≡ Ok w
onward m f v w first second = rw first second

pub file_held : (files : Files) (name bytes : List ℕ) → IsHeld files name bytes → (file_step files name).end ≡ Ok bytes
file_held files name bytes h = rw h.0 (rw (not_past (limit_of File) (length bytes) h.1) refl)

-- a table of an accepted project is read, counted and loaded
table_read : (files : Files) (before : ℕ) (decl : TableDecl) (table : Loaded) (bytes : List ℕ) → IsHeld files decl.file bytes → before + length bytes ≤ limit_of TablesTogether → table_of decl bytes ≡ Ok table
    → (one_table files before decl).end ≡ Ok (table, before + length bytes)
unfolding one_table
table_read files before decl table bytes held within loaded =
    onward (file_step files decl.file) _ bytes _ (file_held files decl.file bytes held)
    (rw (not_past (limit_of TablesTogether) (before + length bytes) within) (rw loaded refl))

pub tables_read : (files : Files) (before : ℕ) (decls : List TableDecl) (tables : List Loaded) → AreTables files before decls tables → (tables_step files before decls).end ≡ Ok tables
unfolding tables_step
tables_read files before [] [] all = refl
tables_read files before [] (table ∷ tables) all = absurd all
tables_read files before (decl ∷ decls) [] all = absurd all
tables_read files before (decl ∷ decls) (table ∷ tables) all =
    onward (one_table files before decl) _ (table, before + length all.0) _ (table_read files before decl table all.0 all.1 all.2 all.3)
    (onward (tables_step files (before + length all.0) decls) _ tables _ (tables_read files (before + length all.0) decls tables all.4) refl)

-- what a text names is read, and then the text
given_walked : (files : Files) (file : Option (List ℕ)) (given : Option Ontology) → IsGiven files file given → (given_step files file).end ≡ Ok given
unfolding given_step
given_walked files None None is = refl
given_walked files None (Some ontology) is = absurd is
given_walked files (Some file) None is = absurd is
given_walked files (Some file) (Some ontology) is = onward (file_step files file) _ is.0 _ (file_held files file is.0 is.1) (rw is.2 refl)

pub text_walked : (files : Files) (p bytes : List ℕ) (project : Project) → IsHeld files p bytes → IsText files bytes project → (project_step files p).end ≡ Ok project
unfolding project_step
text_walked files p bytes project held text =
    onward (file_step files p) _ bytes _ (file_held files p bytes held)
    (onward (given_step files (ontology_file bytes)) _ text.given _ (given_walked files (ontology_file bytes) text.given text.is_given) (rw text.read refl))

-- the walk of an accepted project comes to its job
pub walked : (files : Files) (p : List ℕ) (project : Project) (tables : List Loaded) → IsAcceptedProject files p project tables → (walk (codes "extract" ∷ p ∷ []) files).end ≡ Ok (Extracting project tables)
unfolding walk extract_step
walked files p project tables a =
    onward (command_step (codes "extract" ∷ p ∷ [])) (job_step files) (Extract p) _ refl
    (onward (project_step files p) _ project _ (text_walked files p a.read.bytes project a.read.held a.read.read)
    (onward (complete_step p project) _ project _ (rw a.complete refl)
    (onward (sources_step files project) _ tables _ (tables_read files 0 project.sources.tables tables a.read.loaded) refl)))

-- no extraction ends with a failed call
whole : (project : Project) (tables : List Loaded) (e : Ending) (r : Status) → EndsExtraction project tables e → r ≡ e.status → IsWhole r × (r ≢ status.ReadFault)
whole project tables e r (extracted agrees narrow done texts) same = rw (same ∙ done) (record { written = λ x. cc; reported = λ x. cc; memory = λ x. cc }, λ x. cc)
whole project tables e r (too_wide agrees wide is) same = rw (same ∙ ap (λ e. e.status) is) (record { written = λ x. cc; reported = λ x. cc; memory = λ x. cc }, λ x. cc)
whole project tables e r (contradicted clash ds are back is) same = rw (same ∙ ap (λ e. e.status) is) (record { written = λ x. cc; reported = λ x. cc; memory = λ x. cc }, λ x. cc)

pub Keeps-of : (a b : Option (List ℕ)) → Appends a b [] → Keeps a b
Keeps-of None b is = tt
Keeps-of (Some x) None is = absurd is
Keeps-of (Some x) (Some y) is = is ∙ append-nil x

module _ (project : Project) (tables : List Loaded) (out out' report report' : Option (List ℕ)) (r : Status) (e : Ending) (same : r ≡ e.status) (written : Appends out out' e.out) (reported : Appends report report' e.report) where
  log_written : EndsExtraction project tables e → IsConsistentProject project tables → (IsWide project → ⊥) → WritesLog project tables out out' report report' r
  log_written (extracted agrees narrow done texts) is free = record {
    done = same ∙ done;
    text = e.out;
    said = e.report;
    extracted = texts;
    written = written;
    reported = reported;
  }
  log_written (too_wide agrees wide is) agreed free = absurd (free wide)
  log_written (contradicted clash ds are back is) agreed free = absurd (clash agreed)

  width_told : EndsExtraction project tables e → IsConsistentProject project tables → IsWide project → TellsWidth out out' report report' r
  width_told (extracted agrees narrow done texts) agreed wide = absurd (narrow wide)
  width_told (too_wide agrees wide is) agreed other = record {
    limit = same ∙ ap (λ e. e.status) is;
    unwritten = Keeps-of out out' (subst (Appends out out') (ap (λ e. e.out) is) written);
    reported = subst (Appends report report') (ap (λ e. e.report) is) reported;
  }
  width_told (contradicted clash ds are back is) agreed wide = absurd (clash agreed)

  contradictions_reported : EndsExtraction project tables e → (IsConsistentProject project tables → ⊥) → ReportsContradictions project tables out out' report report' r
  contradictions_reported (extracted agrees narrow done texts) clash = absurd (clash agrees)
  contradictions_reported (too_wide agrees wide is) clash = absurd (clash agrees)
  contradictions_reported (contradicted other ds are back is) clash = record {
    conflict = same ∙ ap (λ e. e.status) is;
    unwritten = Keeps-of out out' (subst (Appends out out') (ap (λ e. e.out) is) written);
    derivations = ds;
    accepted = are;
    read_back = back;
    reported = subst (Appends report report') (ap (λ e. e.report) is) reported;
  }

module _ (words : List (List ℕ)) (faults faults' written written' reported reported' : ℕ) (out out' report report' : Option (List ℕ)) (r : Status) where
  -- over files that are known
  extracts : (files : Files) → (r ≢ status.ReadFault → IsWhole r → EndsAs words files out out' report report' r) → Completes (walk words files).end faults faults' written written' reported reported' r
      → Extracts words files faults faults' written written' reported reported' out out' report report' r
  extracts files ends complete p project tables named a quiet memory = by (rw (named, walked files p project tables a) at complete quiet.read quiet.wrote quiet.told)
    where
      by : EndsJob (Extracting project tables) r ⊎ (r ≡ status.NoMemory)
          → (IsConsistentProject project tables → (IsWide project → ⊥) → WritesLog project tables out out' report report' r) × (IsConsistentProject project tables → IsWide project → TellsWidth out out' report report' r) × ((IsConsistentProject project tables → ⊥) → ReportsContradictions project tables out out' report report' r)
      by (inr short) = absurd (memory short)
      by (inl job) =
          let free = whole project tables job.0 r job.1 job.2 in
          let told = ends free.1 free.0 in
          let end : EndsExtraction project tables told.ending = rw (named, walked files p project tables a) at told.first in (
            log_written project tables out out' report report' r told.ending told.status told.out told.report end,
            width_told project tables out out' report report' r told.ending told.status told.out told.report end,
            contradictions_reported project tables out out' report report' r told.ending told.status told.out told.report end,
          )

  pub extracts_from : (held : Option Files) → IfSome held (λ files. r ≢ status.ReadFault → IsWhole r → EndsAs words files out out' report report' r)
      → IfSome held (λ files. Completes (walk words files).end faults faults' written written' reported reported' r)
      → IfSome held (λ files. Extracts words files faults faults' written written' reported reported' out out' report report' r)
  extracts_from None ends complete = tt
  extracts_from (Some files) ends complete = extracts files ends complete

module _ (words : List (List ℕ)) (out out' report report' : Option (List ℕ)) (r : Status) (e : Ending) where
  -- an extraction that is done
  logged : (files : Files) (p : List ℕ) (project : Project) (tables : List Loaded) → EndsExtraction project tables e → r ≡ e.status → r ≡ status.Done → Appends out out' e.out → Appends report report' e.report → IsAcceptedProject files p project tables
      → (project : Project) × (tables : List Loaded) × IsAcceptedProject files p project tables × IsConsistentProject project tables × WritesLog project tables out out' report report' r
  logged files p project tables (extracted agrees narrow ok texts) same done written reported is = (project, tables, is, agrees, record { done = done; text = e.out; said = e.report; extracted = texts; written = written; reported = reported })
  logged files p project tables (too_wide agrees wide end) same done written reported is = let other : status.Done ≡ status.Limit = sym done ∙ same ∙ ap (λ e. e.status) end in absurd cc
  logged files p project tables (contradicted clash ds are back end) same done written reported is = let other : status.Done ≡ status.Conflict = sym done ∙ same ∙ ap (λ e. e.status) end in absurd cc

  -- over files that are known
  sound : (files : Files) → ComesToJob words files e → Delivers e out out' report report' r → ExtractsSoundly words files out out' report report' r
  sound files comes d p named done =
      let w = d.whole (rw done (record { written = λ x. cc; reported = λ x. cc; memory = λ x. cc })) in
      let job = comes (sym w.0 ∙ done) in
      let a = accepted files p job.0 (rw named at job.1) in
      logged files p a.0 a.1 (rw a.3 at job.2) w.0 done w.1 w.2 a.2

  pub sound_from : (held : Option Files) → IfSome held (λ files. ComesToJob words files e) → Delivers e out out' report report' r → IfSome held (λ files. ExtractsSoundly words files out out' report report' r)
  sound_from None comes d = tt
  sound_from (Some files) comes d = sound files comes d
