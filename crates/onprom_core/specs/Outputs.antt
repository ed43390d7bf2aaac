-- What a run has for its job, beside the walk.
use Rattle.std.specs.Prelude.{◌≡◌, ◌≢◌, ℕ, Bool, false, List, [], ◌∷◌, ◌++◌, length, Option, Some, None, Result, Ok, Err}
use Rattle.vocabulary.specs.Lists.{In}
use Rattle.source_tables.specs.Tables.{Loaded}
use Rattle.queries.specs.declared.query.Query.{Query}
use Rattle.onprom_core.specs.declared.halt.Halt.{Halt}
use Rattle.onprom_core.specs.declared.output.Output.{Output}
use Rattle.line_lexer.specs.Faults.{name_of}
use Rattle.line_lexer.specs.declared.fault.Counted.{Counted}
use Rattle.onprom_core.specs.declared.halt.Halt.TheVariants as halt
use Rattle.onprom_core.specs.declared.status.Status.TheVariants as status
use Rattle.onprom_core.specs.Causes.{IsWhole}
use Rattle.onprom_core.specs.Lines.{limit_line}
use Rattle.onprom_core.specs.Jobs.{Ending, IsEnd, IsJobEnd}
use Rattle.onprom_core.specs.Texts.{text_of}
use Rattle.project_language.specs.declared.project.Project.{Project}
use Rattle.onprom_core.specs.Steps.{Step, goes, ◌>>=◌, Halts}
use Rattle.onprom_core.specs.Walk.{Files, Job, Extracting, Checking, Verifying, Answering, Rewriting, Explaining, Linting, Containing, complete_step, file_step, query_step, sources_step, spell_step, walk, width_step}

-- an output as an ending
abbrev pub ended : Output → Ending
ended o = record { status = o.status; out = text_of o.text; report = o.report }

-- the output is of no failure, and of no want of a command or of a file; it has a text only where it is done, or is the conflict of `check`
pub record EndsWell (checks : Bool) (o : Output) : Type 0 where
  pub whole : IsWhole o.status
  pub read : o.status ≢ status.ReadFault
  pub usage : o.status ≢ status.Usage
  pub absent : o.status ≢ status.Absent
  pub silent : o.status ≢ status.Done → (o.status ≡ status.Conflict → checks ≡ false) → text_of o.text ≡ []

-- the output is an end of the job to which the walk comes; else what stopped the code stops the walk
abbrev pub Works : Result Output Halt → Step Job → Type 0
Works (Ok output) step = (job : Job) × (step.end ≡ Ok job) × IsJobEnd job (ended output)
Works (Err h) step = Halts h step

-- the output is the end of the words over no files at all, and only want of memory stops the code
abbrev pub ReadsNothing : List (List ℕ) → Result Output Halt → Type 0
ReadsNothing words (Ok output) = IsEnd (walk words []).end (ended output)
ReadsNothing words (Err (halt.Stopped stopped)) = ⊥
ReadsNothing words (Err (halt.ReadFault name)) = ⊥
ReadsNothing words (Err halt.NoMemory) = Unit {0}

-- the tables of the step were added; else what stopped the code stops the step
abbrev pub Adds : List Loaded → List Loaded → Result (Unit {0}) Halt → Step (List Loaded) → Type 0
Adds old new (Ok done) step = (tables : List Loaded) × (step.end ≡ Ok tables) × (new ≡ old ++ tables)
Adds old new (Err h) step = Halts h step

-- refused with this line
abbrev pub Refuses : {T : Type 0} → List ℕ → Result T Halt → Type 0
Refuses line result = result ≡ Err (halt.Stopped (record { status = status.Refused; line = line }))

-- the limit of what is counted, or want of memory
abbrev pub Passes : {T : Type 0} → Counted → Result T Halt → Type 0
Passes what (Ok x) = ⊥
Passes what (Err (halt.Stopped stopped)) = stopped ≡ record { status = status.Limit; line = limit_line (name_of what) }
Passes what (Err (halt.ReadFault name)) = ⊥
Passes what (Err halt.NoMemory) = Unit {0}

-- the steps of `extract P` behind its project
unfoldable pub extract_rest : Files → List ℕ → Project → Step Job
extract_rest files p project = do
  whole ← complete_step p project
  tables ← sources_step files whole
  goes (Extracting whole tables)

-- those of `check P`
unfoldable pub check_rest : Files → Project → Step Job
check_rest files project = do
  tables ← sources_step files project
  goes (Checking project tables)

-- those of `verify P D` behind the tables
unfoldable pub verify_behind : Files → List ℕ → Project → List Loaded → Step Job
verify_behind files d project tables = do
  bytes ← file_step files d
  derivations ← spell_step project d bytes
  goes (Verifying project tables derivations)

-- and behind the project
unfoldable pub verify_rest : Files → List ℕ → Project → Step Job
verify_rest files d project = do
  tables ← sources_step files project
  verify_behind files d project tables

-- those of `answer P Q` behind its query
unfoldable pub answer_behind : Files → Project → Query → Step Job
answer_behind files project query = do
  tables ← sources_step files project
  goes (Answering project tables query)

-- and behind its project
unfoldable pub answer_rest : Files → List ℕ → Project → Step Job
answer_rest files name project = do
  query ← query_step project name
  answer_behind files project query

-- those of `rewrite P Q`
unfoldable pub rewrite_rest : List ℕ → Project → Step Job
rewrite_rest name project = do
  query ← query_step project name
  goes (Rewriting project name query)

-- those of `why P Q N` behind its query
unfoldable pub why_behind : Files → Project → Query → ℕ → Step Job
why_behind files project query n = do
  tables ← sources_step files project
  goes (Explaining project tables query n)

-- and behind its project
unfoldable pub why_rest : Files → List ℕ → ℕ → Project → Step Job
why_rest files name n project = do
  query ← query_step project name
  why_behind files project query n

-- those of `lint P`
abbrev pub lint_rest : Project → Step Job
lint_rest project = goes (Linting project)

-- those of `contained P Q Q`
unfoldable pub contained_rest : List ℕ → List ℕ → Project → Step Job
contained_rest q r project = do
  first ← query_step project q
  other ← query_step project r
  second ← width_step r first other
  goes (Containing project first second)

-- the number of the first item that is not so, counted from 1; none where all are so
abbrev pub TellsFirst : {A : Type 0} → (A → Type 0) → List A → Option ℕ → Type 0
TellsFirst {A} P xs None = (x : A) → In x xs → P x
TellsFirst {A} P xs (Some number) = (before : List A) × (x : A) × (behind : List A) × (xs ≡ before ++ x ∷ behind) × ((y : A) → In y before → P y) × (P x → ⊥) × (number ≡ length (x ∷ before))
