-- A walk whose first steps went on does what its last steps do.
use Rattle.std.proofs.Common.{◌≡◌, refl, ◌∙◌, ℕ, List, [], ◌∷◌, ◌++◌, Option, None, Some, IfSome, Result, Ok, Err, IsErrAnd, Contains, append_assoc, ◌≤◌, length, get_or, ◌-◌, drop, take, arith}
use Rattle.std.proofs.lemmas.List.{take_all}
use Rattle.std.proofs.lemmas.List.Elements.{Contains-append_left, Contains-append_right}
use Rattle.source_tables.specs.declared.decl.TableDecl.{TableDecl}
use Rattle.source_tables.specs.Tables.{Loaded}
use Rattle.conflict_checker.specs.declared.derivation.Derivation.{Derivation}
use Rattle.project_language.specs.Project.{ontology_file}
use Rattle.project_language.specs.declared.project.Project.{Project}
use Rattle.onprom_core.specs.declared.output.Output.{Output}
use Rattle.onprom_core.specs.declared.halt.Stopped.{Stopped}
use Rattle.onprom_core.specs.declared.halt.Halt.{Halt}
use Rattle.onprom_core.specs.declared.halt.Halt.TheVariants as halt
use Rattle.onprom_core.specs.Commands.{Command}
use Rattle.onprom_core.specs.Jobs.{EndsCheck, EndsExtraction, EndsVerification}
use Rattle.onprom_core.specs.Outputs.{Adds, Works, check_rest, ended, extract_rest, verify_behind, verify_rest}
use Rattle.onprom_core.specs.Steps.{Step, ◌>>=◌, bind_end, Gives, Halts}
use Rattle.onprom_core.specs.Walk.{Files, Job, Extracting, Checking, Verifying, check_step, command_step, complete_step, extract_step, file_step, given_step, job_step, one_table, project_step, sources_step, spell_step, tables_step, verify_step, walk}

-- what stops a later step stops the whole
pub Halts-then : {A Y : Type 0} (m : Step A) (f : A → Step Y) (v : A) (h : Halt) → m.end ≡ Ok v → Halts h (f v) → Halts h (m >>= f)
Halts-then m f v (halt.Stopped stopped) is halts = rw is halts
Halts-then m f v (halt.ReadFault name) is halts = rw is (Contains-append_right m.begun (f v).begun name halts)
Halts-then m f v halt.NoMemory is halts = tt

-- what stops a step stops what goes on behind it
pub Halts-early : {A Y : Type 0} (m : Step A) (f : A → Step Y) (h : Halt) → Halts h m → Halts h (m >>= f)
Halts-early m f (halt.Stopped stopped) halts = rw halts refl
Halts-early {A} {Y} m f (halt.ReadFault name) halts = by m.end
  where
    by : (end : Result A Stopped) → Contains (bind_end m.begun end f).begun name
    by (Ok x) = Contains-append_left m.begun (f x).begun name halts
    by (Err stopped) = halts
Halts-early m f halt.NoMemory halts = tt

pub Works-then : {A : Type 0} (m : Step A) (f : A → Step Job) (v : A) (r : Result Output Halt) → m.end ≡ Ok v → Works r (f v) → Works r (m >>= f)
Works-then m f v (Ok output) is works = rw is works
Works-then m f v (Err h) is halts = Halts-then m f v h is halts

-- what the command does, where the words name it
pub works_from : (held : Option Files) (words : List (List ℕ)) (command : Command) (r : Result Output Halt) → (command_step words).end ≡ Ok command → IfSome held (λ files. Works r (job_step files command)) → IfSome held (λ files. Works r (walk words files))
unfolding walk
works_from None words command r named last = tt
works_from (Some files) words command r named last = Works-then (command_step words) (job_step files) command r named last

-- a command does what the steps behind its project do
module _ (held : Option Files) (name : List ℕ) (project : Project) (r : Result Output Halt) (read : IfSome held (λ files. (project_step files name).end ≡ Ok project)) where
  pub extract_from : IfSome held (λ files. Works r (extract_rest files name project)) → IfSome held (λ files. Works r (extract_step files name))
  unfolding extract_step extract_rest
  extract_from = by held read
    where
      by : (h : Option Files) → IfSome h (λ files. (project_step files name).end ≡ Ok project) → IfSome h (λ files. Works r (extract_rest files name project)) → IfSome h (λ files. Works r (extract_step files name))
      by None read last = tt
      by (Some files) read last = Works-then (project_step files name) (extract_rest files name) project r read last

  pub check_from : IfSome held (λ files. Works r (check_rest files project)) → IfSome held (λ files. Works r (check_step files name))
  unfolding check_step check_rest
  check_from = by held read
    where
      by : (h : Option Files) → IfSome h (λ files. (project_step files name).end ≡ Ok project) → IfSome h (λ files. Works r (check_rest files project)) → IfSome h (λ files. Works r (check_step files name))
      by None read last = tt
      by (Some files) read last = Works-then (project_step files name) (check_rest files) project r read last

  pub verify_from : (d : List ℕ) → IfSome held (λ files. Works r (verify_rest files d project)) → IfSome held (λ files. Works r (verify_step files name d))
  unfolding verify_step verify_rest verify_behind
  verify_from d = by held read
    where
      by : (h : Option Files) → IfSome h (λ files. (project_step files name).end ≡ Ok project) → IfSome h (λ files. Works r (verify_rest files d project)) → IfSome h (λ files. Works r (verify_step files name d))
      by None read last = tt
      by (Some files) read last = Works-then (project_step files name) (verify_rest files d) project r read last

-- a job is done, where all is read
module _ (held : Option Files) (project : Project) (tables : List Loaded) where
  pub extracted_from : (name : List ℕ) (output : Output) → (complete_step name project).end ≡ Ok project → IfSome held (λ files. (tables_step files 0 project.sources.tables).end ≡ Ok tables) → EndsExtraction project tables (ended output)
      → IfSome held (λ files. Works (Ok output) (extract_rest files name project))
  unfolding extract_rest
  extracted_from name output whole loaded ends = by held loaded
    where
      by : (h : Option Files) → IfSome h (λ files. (tables_step files 0 project.sources.tables).end ≡ Ok tables) → IfSome h (λ files. Works (Ok output) (extract_rest files name project))
      by None loaded = tt
      by (Some files) loaded =
          Works-then (complete_step name project) _ project (Ok output) whole (
          Works-then (sources_step files project) _ tables (Ok output) loaded (Extracting project tables, refl, ends))

  pub checked_from : (output : Output) → IfSome held (λ files. (tables_step files 0 project.sources.tables).end ≡ Ok tables) → EndsCheck project tables (ended output) → IfSome held (λ files. Works (Ok output) (check_rest files project))
  unfolding check_rest
  checked_from output loaded ends = by held loaded
    where
      by : (h : Option Files) → IfSome h (λ files. (tables_step files 0 project.sources.tables).end ≡ Ok tables) → IfSome h (λ files. Works (Ok output) (check_rest files project))
      by None loaded = tt
      by (Some files) loaded = Works-then (sources_step files project) _ tables (Ok output) loaded (Checking project tables, refl, ends)

  pub behind_tables : (d : List ℕ) (r : Result Output Halt) → IfSome held (λ files. (tables_step files 0 project.sources.tables).end ≡ Ok tables) → IfSome held (λ files. Works r (verify_behind files d project tables)) → IfSome held (λ files. Works r (verify_rest files d project))
  unfolding verify_rest
  behind_tables d r loaded last = by held loaded last
    where
      by : (h : Option Files) → IfSome h (λ files. (tables_step files 0 project.sources.tables).end ≡ Ok tables) → IfSome h (λ files. Works r (verify_behind files d project tables)) → IfSome h (λ files. Works r (verify_rest files d project))
      by None loaded last = tt
      by (Some files) loaded last = Works-then (sources_step files project) _ tables r loaded last

  pub verified_from : (d bytes : List ℕ) (ds : List Derivation) (output : Output) → IfSome held (λ files. (file_step files d).end ≡ Ok bytes) → (spell_step project d bytes).end ≡ Ok ds → EndsVerification project tables ds (ended output)
      → IfSome held (λ files. Works (Ok output) (verify_behind files d project tables))
  unfolding verify_behind
  verified_from d bytes ds output got read ends = by held got
    where
      by : (h : Option Files) → IfSome h (λ files. (file_step files d).end ≡ Ok bytes) → IfSome h (λ files. Works (Ok output) (verify_behind files d project tables))
      by None got = tt
      by (Some files) got =
          Works-then (file_step files d) _ bytes (Ok output) got (
          Works-then (spell_step project d bytes) _ ds (Ok output) read (Verifying project tables ds, refl, ends))

-- what stops the reading of an ontology stops that of its project
pub given_stops : (held : Option Files) (p bytes : List ℕ) (h : Halt) (r : Result Project Halt) → IsErrAnd r (λ other. other ≡ h) → IfSome held (λ files. (file_step files p).end ≡ Ok bytes)
    → IfSome held (λ files. Halts h (given_step files (ontology_file bytes))) → IfSome held (λ files. Gives (λ v. v) r (project_step files p))
unfolding project_step
given_stops None p bytes h r is read halts = tt
given_stops (Some files) p bytes h (Ok project) is read halts = absurd is
given_stops (Some files) p bytes h (Err other) is read halts =
    rw is (Halts-then (file_step files p) _ bytes h read (Halts-early (given_step files (ontology_file bytes)) _ h halts))

-- the tables behind one that was read
pub adds_from : (held : Option Files) (before total : ℕ) (decl : TableDecl) (decls : List TableDecl) (table : Loaded) (old new : List Loaded) (r : Result (Unit {0}) Halt)
    → IfSome held (λ files. (one_table files before decl).end ≡ Ok (table, total)) → IfSome held (λ files. Adds (old ++ table ∷ []) new r (tables_step files total decls)) → IfSome held (λ files. Adds old new r (tables_step files before (decl ∷ decls)))
unfolding tables_step
adds_from None before total decl decls table old new r read last = tt
adds_from (Some files) before total decl decls table old new r read last = by r last
  where
    by : (r : Result (Unit {0}) Halt) → Adds (old ++ table ∷ []) new r (tables_step files total decls) → Adds old new r (tables_step files before (decl ∷ decls))
    by (Ok done) w = (table ∷ w.0, rw (read, w.1) refl, w.2 ∙ append_assoc old (table ∷ []) w.0)
    by (Err h) halts = Halts-then (one_table files before decl) _ (table, total) h read (Halts-early (tables_step files total decls) _ h halts)

-- the same, where the tables are cut by their places
pub adds_at : (held : Option Files) (before total : ℕ) (decls : List TableDecl) (decl : TableDecl) (table : Loaded) (old more new : List Loaded) (r : Result (Unit {0}) Halt)
    → 1 ≤ length decls → decl ≡ get_or decls 0 decl → IfSome held (λ files. (one_table files before decl).end ≡ Ok (table, total)) → more ≡ old ++ table ∷ []
    → IfSome held (λ files. Adds more new r (tables_step files total (take (length decls - 1) (drop 1 decls)))) → IfSome held (λ files. Adds old new r (tables_step files before decls))
adds_at held before total [] decl table old more new r some at read grown last = absurd (omega arith)
adds_at held before total (d ∷ ds) decl table old more new r some at read grown last =
    let all : take (length (d ∷ ds) - 1) ds ≡ ds = take_all (length (d ∷ ds) - 1) ds (omega arith) in
    adds_from held before total d ds table old new r (rw at at read) (rw (grown, all) at last)
