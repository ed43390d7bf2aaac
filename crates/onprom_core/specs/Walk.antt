-- How a run goes where the shelf tells its files and nothing fails: step by step to its first end or to its job.
use Rattle.std.specs.Prelude.{◌≡◌, ℕ, ◌+◌, List, [], ◌∷◌, length, nat_lt, ◌==◌, codes, Option, Some, None, Result, Ok, Err, if◌then◌else◌}
use Rattle.std.specs.Str.{is_utf8}
use Rattle.outside.specs.Files.{bytes_of}
use Rattle.line_lexer.specs.Faults.{kind_of, limit_of, name_of}
use Rattle.line_lexer.specs.declared.fault.Counted.TheVariants.{File, TablesTogether, Rows, Steps}
use Rattle.line_lexer.specs.declared.fault.LineFault.TheVariants.{NoCase, NoCases, NoTime, NoActivity}
use Rattle.source_tables.specs.declared.decl.TableDecl.{TableDecl}
use Rattle.source_tables.specs.declared.fault.TableFault.{TableFault}
use Rattle.source_tables.specs.declared.fault.TableFault.TheVariants as table_fault
use Rattle.source_tables.specs.Tables.{Loaded, table_of}
use Rattle.queries.specs.declared.query.Query.{Query}
use Rattle.annotation_language.specs.Complete.{Lack, Case, Cases, Time, Activity, lack_of}
use Rattle.annotation_language.specs.Named.{query_named}
use Rattle.conflict_checker.specs.declared.derivation.Derivation.{Derivation}
use Rattle.derivation_text.specs.declared.fault.DerivationFault.{DerivationFault}
use Rattle.derivation_text.specs.declared.fault.DerivationFault.TheVariants as text_fault
use Rattle.derivation_text.specs.Reading.{derivations_of}
use Rattle.owl_functional.specs.declared.fault.OwlFault.{OwlFault}
use Rattle.owl_functional.specs.declared.fault.OwlFault.TheVariants as owl_fault
use Rattle.owl_functional.specs.declared.ontology.Ontology.{Ontology}
use Rattle.owl_functional.specs.Ontology.{read_ontology}
use Rattle.project_language.specs.declared.fault.ProjectFault.{ProjectFault}
use Rattle.project_language.specs.declared.fault.ProjectFault.TheVariants.{NotUtf8, Line, Limit, NoMemory}
use Rattle.project_language.specs.declared.project.Project.{Project}
use Rattle.project_language.specs.Project.{bad_line, ontology_file, read_project, read_project_over}
use Rattle.onprom_core.specs.declared.status.Status.{Status}
use Rattle.onprom_core.specs.declared.status.Status.TheVariants as status
use Rattle.onprom_core.specs.declared.halt.Stopped.{Stopped}
use Rattle.onprom_core.specs.Commands.{Command, Extract, Check, Verify, Answer, Rewrite, Make, Why, Lint, Contained, command_of}
use Rattle.onprom_core.specs.Lines.{usage_line, absent_line, limit_line, line_refused, query_refused, table_refused, width_refused}
use Rattle.onprom_core.specs.Meaning.{mapping_names}
use Rattle.onprom_core.specs.Steps.{Step, goes, stops, ◌>>=◌}

abbrev pub Files : Type 0
Files = List (List ℕ × List ℕ)

abbrev pub stop : {A : Type 0} → Status → List ℕ → Step A
stop s l = stops (record { status = s; line = l })

abbrev pub stop_usage : Step Command
stop_usage = stop status.Usage usage_line

abbrev pub named_step : Option Command → Step Command
named_step None = stop_usage
named_step (Some command) = goes command

-- the command that the words name
abbrev pub command_step : List (List ℕ) → Step Command
command_step words = named_step (command_of words)

-- a file as it was read
abbrev pub held_step : List ℕ → Option (List ℕ) → Step (List ℕ)
held_step name None = stop status.Absent (absent_line name)
held_step name (Some bytes) = if nat_lt (limit_of File) (length bytes) then stop status.Limit (limit_line (name_of File)) else goes bytes

abbrev pub file_step : Files → List ℕ → Step (List ℕ)
file_step files name = record { begun = name ∷ []; end = (held_step name (bytes_of files name)).end }

-- the project of a text, or its first fault
abbrev pub read_step : List ℕ → Result Project ProjectFault → Step Project
read_step p (Ok project) = goes project
read_step p (Err (NotUtf8 line)) = stop status.Refused (line_refused p line (codes "NotUtf8"))
read_step p (Err (Line line kind)) = stop status.Refused (line_refused p line (kind_of kind))
read_step p (Err (Limit what)) = stop status.Limit (limit_line (name_of what))
read_step p (Err NoMemory) = stop status.NoMemory []

-- the ontology of a text, or its first fault
abbrev pub ontology_step : List ℕ → Result Ontology OwlFault → Step Ontology
ontology_step file (Ok ontology) = goes ontology
ontology_step file (Err (owl_fault.NotUtf8 line)) = stop status.Refused (line_refused file line (codes "NotUtf8"))
ontology_step file (Err (owl_fault.Syntax line)) = stop status.Refused (line_refused file line (codes "Syntax"))
ontology_step file (Err (owl_fault.Unsupported line)) = stop status.Refused (line_refused file line (codes "Unsupported"))
ontology_step file (Err (owl_fault.BadName line)) = stop status.Refused (line_refused file line (codes "BadName"))
ontology_step file (Err (owl_fault.DoubleName line)) = stop status.Refused (line_refused file line (codes "DoubleName"))
ontology_step file (Err (owl_fault.Undeclared line)) = stop status.Refused (line_refused file line (codes "Undeclared"))
ontology_step file (Err (owl_fault.FunctionalSpecialised line)) = stop status.Refused (line_refused file line (codes "FunctionalSpecialised"))
ontology_step file (Err (owl_fault.Limit what)) = stop status.Limit (limit_line (name_of what))
ontology_step file (Err owl_fault.NoMemory) = stop status.NoMemory []

-- the ontology of the file that a text names, where it names one
unfoldable pub given_step : Files → Option (List ℕ) → Step (Option Ontology)
given_step files None = goes None
given_step files (Some file) = do
  bytes ← file_step files file
  ontology ← ontology_step file (read_ontology bytes)
  goes (Some ontology)

-- what a text says by its own lines, or over an ontology
abbrev pub project_of : List ℕ → Option Ontology → Result Project ProjectFault
project_of bytes None = read_project bytes
project_of bytes (Some ontology) = read_project_over bytes ontology

-- the file of an `ontology` line is begun behind the project, and before the other lines are read
unfoldable pub project_step : Files → List ℕ → Step Project
project_step files p = do
  bytes ← file_step files p
  given ← given_step files (ontology_file bytes)
  read_step p (project_of bytes given)

-- the annotations of the project lack nothing
abbrev pub lack_step : List ℕ → Project → Option Lack → Step Project
lack_step p project None = goes project
lack_step p project (Some Case) = stop status.Refused (line_refused p 0 (kind_of NoCase))
lack_step p project (Some (Cases line)) = stop status.Refused (line_refused p line (kind_of NoCases))
lack_step p project (Some (Time line)) = stop status.Refused (line_refused p line (kind_of NoTime))
lack_step p project (Some (Activity line)) = stop status.Refused (line_refused p line (kind_of NoActivity))

abbrev pub complete_step : List ℕ → Project → Step Project
complete_step p project = lack_step p project (lack_of project.noted.notes)

-- the query of a name
abbrev pub found_step : List ℕ → Option Query → Step Query
found_step name None = stop status.Refused (query_refused name)
found_step name (Some query) = goes query

abbrev pub query_step : Project → List ℕ → Step Query
query_step project name = found_step name (query_named project.noted.notes name)

-- the heads of two queries have one length
abbrev pub width_step : List ℕ → Query → Query → Step Query
width_step name first second = if length first.head == length second.head then goes second else stop status.Refused (width_refused name)

-- the tables so far have so many bytes together
abbrev pub together_step : ℕ → Step ℕ
together_step total = if nat_lt (limit_of TablesTogether) total then stop status.Limit (limit_line (name_of TablesTogether)) else goes total

-- a table as it was loaded
abbrev pub loaded_step : TableDecl → Result Loaded TableFault → Step Loaded
loaded_step decl (Ok table) = goes table
loaded_step decl (Err table_fault.TooManyRows) = stop status.Limit (limit_line (name_of Rows))
loaded_step decl (Err fault) = stop status.Refused (table_refused decl fault)

abbrev pub table_step : TableDecl → List ℕ → Step Loaded
table_step decl bytes = loaded_step decl (table_of decl bytes)

-- a table, and how many bytes there are with it, behind tables that have so many together
unfoldable pub one_table : Files → ℕ → TableDecl → Step (Loaded × ℕ)
one_table files before decl = do
  bytes ← file_step files decl.file
  total ← together_step (before + length bytes)
  table ← table_step decl bytes
  goes (table, total)

-- the tables in declared order: each is read, counted and loaded before the next is begun
unfoldable pub tables_step : Files → ℕ → List TableDecl → Step (List Loaded)
tables_step files before [] = goes []
tables_step files before (decl ∷ decls) = do
  read ← one_table files before decl
  rest ← tables_step files read.1 decls
  goes (read.0 ∷ rest)

abbrev pub sources_step : Files → Project → Step (List Loaded)
sources_step files project = tables_step files 0 project.sources.tables

-- the derivations of a text, or its first fault
abbrev pub spelled_step : List ℕ → Result (List Derivation) DerivationFault → Step (List Derivation)
spelled_step d (Ok derivations) = goes derivations
spelled_step d (Err (text_fault.Syntax line)) = stop status.Refused (line_refused d line (codes "Syntax"))
spelled_step d (Err (text_fault.Unknown line)) = stop status.Refused (line_refused d line (codes "Unknown"))
spelled_step d (Err (text_fault.BadStep line)) = stop status.Refused (line_refused d line (codes "BadStep"))
spelled_step d (Err text_fault.TooLong) = stop status.Limit (limit_line (name_of Steps))
spelled_step d (Err text_fault.NoMemory) = stop status.NoMemory []

abbrev pub spell_step : Project → List ℕ → List ℕ → Step (List Derivation)
spell_step project d bytes =
    if is_utf8 bytes then spelled_step d (derivations_of (mapping_names project) bytes)
    else stop status.Refused (line_refused d (bad_line bytes) (codes "NotUtf8"))

-- what a run has read when it comes to its job: for `rewrite`, the query with its name; for `why`, the number of the answer; a made project is read from nothing
pub data Job : Type 0 where
  Extracting : Project → List Loaded → Job
  Checking : Project → List Loaded → Job
  Verifying : Project → List Loaded → List Derivation → Job
  Answering : Project → List Loaded → Query → Job
  Rewriting : Project → List ℕ → Query → Job
  Making : ℕ → List ℕ → Job
  Explaining : Project → List Loaded → Query → ℕ → Job
  Linting : Project → Job
  Containing : Project → Query → Query → Job

-- `extract P`: the project, whose annotations lack nothing, and its tables
unfoldable pub extract_step : Files → List ℕ → Step Job
extract_step files p = do
  project ← project_step files p
  whole ← complete_step p project
  tables ← sources_step files whole
  goes (Extracting whole tables)

unfoldable pub check_step : Files → List ℕ → Step Job
check_step files p = do
  project ← project_step files p
  tables ← sources_step files project
  goes (Checking project tables)

-- the derivations are read behind the tables
unfoldable pub verify_step : Files → List ℕ → List ℕ → Step Job
verify_step files p d = do
  project ← project_step files p
  tables ← sources_step files project
  bytes ← file_step files d
  derivations ← spell_step project d bytes
  goes (Verifying project tables derivations)

-- the query is found before the tables are read
unfoldable pub answer_step : Files → List ℕ → List ℕ → Step Job
answer_step files p q = do
  project ← project_step files p
  query ← query_step project q
  tables ← sources_step files project
  goes (Answering project tables query)

unfoldable pub rewrite_step : Files → List ℕ → List ℕ → Step Job
rewrite_step files p q = do
  project ← project_step files p
  query ← query_step project q
  goes (Rewriting project q query)

-- what is read for `answer`
unfoldable pub why_step : Files → List ℕ → List ℕ → ℕ → Step Job
why_step files p q n = do
  project ← project_step files p
  query ← query_step project q
  tables ← sources_step files project
  goes (Explaining project tables query n)

unfoldable pub lint_step : Files → List ℕ → Step Job
lint_step files p = do
  project ← project_step files p
  goes (Linting project)

-- both queries are found, in their order, before their heads are compared
unfoldable pub contained_step : Files → List ℕ → List ℕ → List ℕ → Step Job
contained_step files p q r = do
  project ← project_step files p
  first ← query_step project q
  other ← query_step project r
  second ← width_step r first other
  goes (Containing project first second)

-- what a command reads
abbrev pub job_step : Files → Command → Step Job
job_step files (Extract p) = extract_step files p
job_step files (Check p) = check_step files p
job_step files (Verify p d) = verify_step files p d
job_step files (Answer p q) = answer_step files p q
job_step files (Rewrite p q) = rewrite_step files p q
job_step files (Make n f) = goes (Making n f)
job_step files (Why p q n) = why_step files p q n
job_step files (Lint p) = lint_step files p
job_step files (Contained p q r) = contained_step files p q r

-- the walk up to the job
unfoldable pub walk : List (List ℕ) → Files → Step Job
walk words files = do
  command ← command_step words
  job_step files command

-- the words match no line of the command table
abbrev pub IsNoCommand : List (List ℕ) → Type 0
IsNoCommand words = (stopped : Stopped) × ((command_step words).end ≡ Err stopped)
