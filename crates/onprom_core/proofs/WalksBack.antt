-- What walks that come to their job have read: the step that went on went on with what it says.
use Rattle.std.proofs.Common.{◌≡◌, refl, sym, ◌∙◌, ap, subst, ℕ, ◌+◌, ◌≤◌, Bool, true, false, List, [], ◌∷◌, Option, Some, None, Result, Ok, Err, codes, arith, length, nat_lt, if◌then◌else◌}
use Rattle.std.proofs.lemmas.Bool.Decides.{nat_tests}
use Rattle.std.specs.Str.{is_utf8}
use Rattle.outside.specs.Files.{bytes_of}
use Rattle.line_lexer.specs.Faults.{limit_of, name_of}
use Rattle.line_lexer.specs.declared.fault.Counted.TheVariants.{File, TablesTogether}
use Rattle.source_tables.specs.declared.decl.TableDecl.{TableDecl}
use Rattle.source_tables.specs.declared.fault.TableFault.{TableFault}
use Rattle.source_tables.specs.declared.fault.TableFault.TheVariants as tf
use Rattle.source_tables.specs.Tables.{Loaded, table_of}
use Rattle.annotation_language.specs.Complete.{Lack, Case, Cases, Time, Activity, lack_of}
use Rattle.conflict_checker.specs.declared.derivation.Derivation.{Derivation}
use Rattle.derivation_text.specs.declared.fault.DerivationFault.{DerivationFault}
use Rattle.derivation_text.specs.declared.fault.DerivationFault.TheVariants as df
use Rattle.derivation_text.specs.Reading.{derivations_of}
use Rattle.owl_functional.specs.declared.fault.OwlFault.{OwlFault}
use Rattle.owl_functional.specs.declared.fault.OwlFault.TheVariants as of
use Rattle.owl_functional.specs.declared.ontology.Ontology.{Ontology}
use Rattle.owl_functional.specs.Ontology.{read_ontology}
use Rattle.project_language.specs.declared.fault.ProjectFault.{ProjectFault}
use Rattle.project_language.specs.declared.fault.ProjectFault.TheVariants as pf
use Rattle.project_language.specs.declared.project.Project.{Project}
use Rattle.project_language.specs.Project.{bad_line, ontology_file}
use Rattle.onprom_core.specs.declared.halt.Stopped.{Stopped}
use Rattle.onprom_core.specs.declared.status.Status.TheVariants as status
use Rattle.onprom_core.specs.Commands.{Command, Check, Extract, Verify}
use Rattle.onprom_core.specs.Headline.{AreReadDerivations, AreTables, IsAcceptedProject, IsGiven, IsHeld, IsReadProject, IsText}
use Rattle.onprom_core.specs.Lines.{limit_line, line_refused}
use Rattle.onprom_core.specs.Meaning.{mapping_names}
use Rattle.onprom_core.specs.Steps.{Step, bind_end, goes, ◌>>=◌}
use Rattle.onprom_core.specs.Walk.{Files, Job, Checking, Extracting, Verifying, check_step, command_step, complete_step, extract_step, file_step, given_step, held_step, job_step, lack_step, loaded_step, one_table, ontology_step, project_of, project_step, read_step, sources_step, spell_step, spelled_step, stop, table_step, tables_step, together_step, verify_step, walk}

-- a step behind a step: both went on
pub back : {A B : Type 0} (m : Step A) (f : A → Step B) (w : B) → (m >>= f).end ≡ Ok w → (v : A) × (m.end ≡ Ok v) × ((f v).end ≡ Ok w)
back {A} {B} m f w = by m.end refl
  where
    by : (o : Result A Stopped) → m.end ≡ o → (bind_end m.begun o f).end ≡ Ok w → (v : A) × (m.end ≡ Ok v) × ((f v).end ≡ Ok w)
    by (Ok v) is e = (v, is, e)
    by (Err s) is e = absurd cc

-- a count that is not past its number is within it
within : (limit n : ℕ) → nat_lt limit n ≡ false → n ≤ limit
within limit n fits = grind (arith, nat_tests, fits)

-- a file went on: it is held
pub held_back : (files : Files) (name bytes : List ℕ) → (file_step files name).end ≡ Ok bytes → IsHeld files name bytes
held_back files name bytes = by (bytes_of files name) refl
  where
    by : (o : Option (List ℕ)) → bytes_of files name ≡ o → (held_step name o).end ≡ Ok bytes → IsHeld files name bytes
    by None is e = absurd cc
    by (Some b) is e = at (nat_lt (limit_of File) (length b)) refl e
      where
        at : (t : Bool) → nat_lt (limit_of File) (length b) ≡ t → (if t then stop status.Limit (limit_line (name_of File)) else goes b).end ≡ Ok bytes → IsHeld files name bytes
        at true lt e = absurd cc
        at false lt e = let same : b ≡ bytes = cc in (is ∙ ap (λ x. Some x) same, subst (λ x. length x ≤ limit_of File) same (within (limit_of File) (length b) lt))

-- tables together went on: they are not too long
together_back : (total v : ℕ) → (together_step total).end ≡ Ok v → (total ≤ limit_of TablesTogether) × (v ≡ total)
together_back total v = at (nat_lt (limit_of TablesTogether) total) refl
  where
    at : (t : Bool) → nat_lt (limit_of TablesTogether) total ≡ t → (if t then stop status.Limit (limit_line (name_of TablesTogether)) else goes total).end ≡ Ok v → (total ≤ limit_of TablesTogether) × (v ≡ total)
    at true lt e = absurd cc
    at false lt e = (within (limit_of TablesTogether) total lt, cc)

-- a table went on: it is the one of its text
loaded_back : (decl : TableDecl) (v : Loaded) (o : Result Loaded TableFault) → (loaded_step decl o).end ≡ Ok v → o ≡ Ok v
loaded_back decl v (Ok t) e = cc
loaded_back decl v (Err (tf.Header c)) e = absurd cc
loaded_back decl v (Err (tf.NotUtf8 r)) e = absurd cc
loaded_back decl v (Err (tf.Width r)) e = absurd cc
loaded_back decl v (Err (tf.BadCell r c)) e = absurd cc
loaded_back decl v (Err (tf.BadChar r c)) e = absurd cc
loaded_back decl v (Err (tf.NullKey r)) e = absurd cc
loaded_back decl v (Err (tf.DoubleKey r s)) e = absurd cc
loaded_back decl v (Err tf.TooManyRows) e = absurd cc
loaded_back decl v (Err tf.NoMemory) e = absurd cc

-- a project went on: it is the one of its text
pub read_back : (p : List ℕ) (v : Project) (o : Result Project ProjectFault) → (read_step p o).end ≡ Ok v → o ≡ Ok v
read_back p v (Ok project) e = cc
read_back p v (Err (pf.NotUtf8 line)) e = absurd cc
read_back p v (Err (pf.Line line kind)) e = absurd cc
read_back p v (Err (pf.Limit what)) e = absurd cc
read_back p v (Err pf.NoMemory) e = absurd cc

-- annotations went on: they lack nothing
pub lack_back : (p : List ℕ) (project v : Project) (o : Option Lack) → (lack_step p project o).end ≡ Ok v → (o ≡ None) × (project ≡ v)
lack_back p project v None e = (refl, cc)
lack_back p project v (Some Case) e = absurd cc
lack_back p project v (Some (Cases line)) e = absurd cc
lack_back p project v (Some (Time line)) e = absurd cc
lack_back p project v (Some (Activity line)) e = absurd cc

-- a text of derivations went on: it is UTF-8, and they are read of it
spelled_back : (d : List ℕ) (ds : List Derivation) (o : Result (List Derivation) DerivationFault) → (spelled_step d o).end ≡ Ok ds → o ≡ Ok ds
spelled_back d ds (Ok found) e = cc
spelled_back d ds (Err (df.Syntax line)) e = absurd cc
spelled_back d ds (Err (df.Unknown line)) e = absurd cc
spelled_back d ds (Err (df.BadStep line)) e = absurd cc
spelled_back d ds (Err df.TooLong) e = absurd cc
spelled_back d ds (Err df.NoMemory) e = absurd cc

spell_back : (project : Project) (d bytes : List ℕ) (ds : List Derivation) → (spell_step project d bytes).end ≡ Ok ds → (is_utf8 bytes ≡ true) × (derivations_of (mapping_names project) bytes ≡ Ok ds)
spell_back project d bytes ds = at (is_utf8 bytes) refl
  where
    at : (t : Bool) → is_utf8 bytes ≡ t → (if t then spelled_step d (derivations_of (mapping_names project) bytes) else stop status.Refused (line_refused d (bad_line bytes) (codes "NotUtf8"))).end ≡ Ok ds
        → (is_utf8 bytes ≡ true) × (derivations_of (mapping_names project) bytes ≡ Ok ds)
    at true is e = (is, spelled_back d ds (derivations_of (mapping_names project) bytes) e)
    at false is e = absurd cc

-- what a table was read from
abbrev OneTable : Files → ℕ → TableDecl → Loaded × ℕ → Type 0
OneTable files before decl read = (bytes : List ℕ) × IsHeld files decl.file bytes × (before + length bytes ≤ limit_of TablesTogether) × (table_of decl bytes ≡ Ok read.0) × (read.1 ≡ before + length bytes)

one_back : (files : Files) (before : ℕ) (decl : TableDecl) (read : Loaded × ℕ) → (one_table files before decl).end ≡ Ok read → OneTable files before decl read
unfolding one_table
one_back files before decl read e =
    let a = back (file_step files decl.file) _ read e in
    let b = back (together_step (before + length a.0)) _ read a.2 in
    let c = back (table_step decl a.0) _ read b.2 in
    let t = together_back (before + length a.0) b.0 b.1 in
    let pair : (c.0, b.0) ≡ read = cc in
    subst (OneTable files before decl) pair (a.0, held_back files decl.file a.0 a.1, t.0, loaded_back decl c.0 (table_of decl a.0) c.1, t.1)

tables_back : (files : Files) (before : ℕ) (decls : List TableDecl) (tables : List Loaded) → (tables_step files before decls).end ≡ Ok tables → AreTables files before decls tables
unfolding tables_step
tables_back files before [] [] e = tt
tables_back files before [] (table ∷ tables) e = absurd cc
tables_back files before (decl ∷ decls) tables e =
    let a = back (one_table files before decl) _ tables e in
    let b = back (tables_step files a.0.1 decls) _ tables a.2 in
    let one = one_back files before decl a.0 a.1 in
    let rest = tables_back files a.0.1 decls b.0 b.1 in
    let all : a.0.0 ∷ b.0 ≡ tables = cc in
    subst (AreTables files before (decl ∷ decls)) all (one.0, one.1, one.2, one.3, subst (λ n. AreTables files n decls b.0) one.4 rest)

-- an ontology went on: it is the one of its text
ontology_back : (file : List ℕ) (v : Ontology) (o : Result Ontology OwlFault) → (ontology_step file o).end ≡ Ok v → o ≡ Ok v
ontology_back file v (Ok ontology) e = cc
ontology_back file v (Err (of.NotUtf8 line)) e = absurd cc
ontology_back file v (Err (of.Syntax line)) e = absurd cc
ontology_back file v (Err (of.Unsupported line)) e = absurd cc
ontology_back file v (Err (of.BadName line)) e = absurd cc
ontology_back file v (Err (of.DoubleName line)) e = absurd cc
ontology_back file v (Err (of.Undeclared line)) e = absurd cc
ontology_back file v (Err (of.FunctionalSpecialised line)) e = absurd cc
ontology_back file v (Err (of.Limit what)) e = absurd cc
ontology_back file v (Err of.NoMemory) e = absurd cc

-- what a text names went on: it is read
given_back : (files : Files) (file : Option (List ℕ)) (given : Option Ontology) → (given_step files file).end ≡ Ok given → IsGiven files file given
unfolding given_step
given_back files None None e = tt
given_back files None (Some ontology) e = absurd cc
given_back files (Some file) given e = by given b.2
  where
    b : (bytes : List ℕ) × ((file_step files file).end ≡ Ok bytes) × ((ontology_step file (read_ontology bytes) >>= (λ ontology. goes (Some ontology))).end ≡ Ok given)
    b = back (file_step files file) _ given e

    by : (given : Option Ontology) → (ontology_step file (read_ontology b.0) >>= (λ ontology. goes (Some ontology))).end ≡ Ok given → IsGiven files (Some file) given
    by None e = let r = back (ontology_step file (read_ontology b.0)) _ None e in absurd cc
    by (Some ontology) e =
        let r = back (ontology_step file (read_ontology b.0)) _ (Some ontology) e in
        let same : r.0 ≡ ontology = cc in
        (b.0, held_back files file b.0 b.1, ontology_back file ontology (read_ontology b.0) (r.1 ∙ ap (λ x. Ok x) same))

-- a project went on: it is the one of a text that is held
pub text_back : (files : Files) (p : List ℕ) (project : Project) → (project_step files p).end ≡ Ok project → (bytes : List ℕ) × IsHeld files p bytes × IsText files bytes project
unfolding project_step
text_back files p project e =
    let r = back (file_step files p) _ project e in
    let g = back (given_step files (ontology_file r.0)) _ project r.2 in
    (r.0, held_back files p r.0 r.1, record { given = g.0; is_given = given_back files (ontology_file r.0) g.0 g.1; read = read_back p project (project_of r.0 g.0) g.2 })

-- the project and its tables went on: they are read
pub project_back : (files : Files) (p : List ℕ) (project : Project) (tables : List Loaded) → (project_step files p).end ≡ Ok project → (sources_step files project).end ≡ Ok tables → IsReadProject files p project tables
project_back files p project tables first second =
    let t = text_back files p project first in record {
      bytes = t.0;
      held = t.1;
      read = t.2;
      loaded = tables_back files 0 project.sources.tables tables second;
    }

-- the words name a command: the job is that of the command
pub job_back : (files : Files) (words : List (List ℕ)) (command : Command) (job : Job) → (command_step words).end ≡ Ok command → (walk words files).end ≡ Ok job → (job_step files command).end ≡ Ok job
unfolding walk
job_back files words command job named e =
    let a = back (command_step words) (job_step files) job e in
    let same : command ≡ a.0 = cc in
    subst (λ c. (job_step files c).end ≡ Ok job) (sym same) a.2

-- the walk of `extract` comes to the job of an accepted project
pub accepted : (files : Files) (p : List ℕ) (job : Job) → (walk (codes "extract" ∷ p ∷ []) files).end ≡ Ok job
    → (project : Project) × (tables : List Loaded) × IsAcceptedProject files p project tables × (job ≡ Extracting project tables)
unfolding extract_step
accepted files p job e =
    let f : (extract_step files p).end ≡ Ok job = job_back files (codes "extract" ∷ p ∷ []) (Extract p) job refl e in
    let b = back (project_step files p) _ job f in
    let c = back (complete_step p b.0) _ job b.2 in
    let d = back (sources_step files c.0) _ job c.2 in
    let l = lack_back p b.0 c.0 (lack_of b.0.noted.notes) c.1 in
    let loaded : (sources_step files b.0).end ≡ Ok d.0 = subst (λ x. (sources_step files x).end ≡ Ok d.0) (sym l.1) d.1 in
    let is_job : job ≡ Extracting c.0 d.0 = cc in
    (b.0, d.0, record { read = project_back files p b.0 d.0 b.1 loaded; complete = l.0 }, is_job ∙ ap (λ x. Extracting x d.0) (sym l.1))

-- the walk of `check` comes to the job of a project that is read
pub checked : (files : Files) (p : List ℕ) (job : Job) → (walk (codes "check" ∷ p ∷ []) files).end ≡ Ok job
    → (project : Project) × (tables : List Loaded) × IsReadProject files p project tables × (job ≡ Checking project tables)
unfolding check_step
checked files p job e =
    let f : (check_step files p).end ≡ Ok job = job_back files (codes "check" ∷ p ∷ []) (Check p) job refl e in
    let b = back (project_step files p) _ job f in
    let d = back (sources_step files b.0) _ job b.2 in
    let is_job : job ≡ Checking b.0 d.0 = cc in
    (b.0, d.0, project_back files p b.0 d.0 b.1 d.1, is_job)

-- the walk of `verify` comes to the job of a project and derivations that are read
pub verified : (files : Files) (p d : List ℕ) (job : Job) → (walk (codes "verify" ∷ p ∷ d ∷ []) files).end ≡ Ok job
    → (project : Project) × (tables : List Loaded) × (ds : List Derivation) × IsReadProject files p project tables × AreReadDerivations files project d ds × (job ≡ Verifying project tables ds)
unfolding verify_step
verified files p d job e =
    let f : (verify_step files p d).end ≡ Ok job = job_back files (codes "verify" ∷ p ∷ d ∷ []) (Verify p d) job refl e in
    let b = back (project_step files p) _ job f in
    let t = back (sources_step files b.0) _ job b.2 in
    let h = back (file_step files d) _ job t.2 in
    let s = back (spell_step b.0 d h.0) _ job h.2 in
    let r = spell_back b.0 d h.0 s.0 s.1 in
    let is_job : job ≡ Verifying b.0 t.0 s.0 = cc in
    (b.0, t.0, s.0, project_back files p b.0 t.0 b.1 t.1, record { bytes = h.0; held = held_back files d h.0 h.1; utf8 = r.0; read = r.1 }, is_job)
