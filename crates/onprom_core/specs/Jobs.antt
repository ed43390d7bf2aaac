-- How the job of a run ends, once all is read.
use Rattle.std.specs.Prelude.{◌≡◌, ◌≢◌, ◌⊎◌, ℕ, unwrap_or, List, [], ◌∷◌, ◌++◌, length, codes, decimal, Option, Some, None, Result, Ok, Err}
use Rattle.vocabulary.specs.Lists.{IsListOf, item}
use Rattle.vocabulary.specs.declared.term.Term.{Term}
use Rattle.line_lexer.specs.Faults.{name_of}
use Rattle.line_lexer.specs.declared.fault.Counted.TheVariants.{Rewriting as RewritingCount}
use Rattle.source_tables.specs.Tables.{Loaded}
use Rattle.queries.specs.declared.query.Query.{Query}
use Rattle.queries.specs.Order.{query_cmp, tuple_cmp}
use Rattle.perfect_rewriting.specs.Reach.{Reach}
use Rattle.query_subsumption.specs.Kept.{NoneMaps}
use Rattle.query_subsumption.specs.Subsumption.{AreKept}
use Rattle.annotation_language.specs.Named.{variables_named}
use Rattle.conflict_checker.specs.declared.derivation.Derivation.{Derivation}
use Rattle.conflict_checker.specs.Derivations.{IsAccepted}
use Rattle.answer_text.specs.Answers.{AreAnswers, why_report}
use Rattle.answer_text.specs.Queries.{queries_report, queries_text}
use Rattle.answer_text.specs.Containment.{containment_report, containment_text}
use Rattle.answer_text.specs.Voids.{voids_report, voids_text}
use Rattle.big_project.specs.Files.{file_of, made_files}
use Rattle.big_project.specs.Summary.{first_line}
use Rattle.model_lint.specs.declared.element.VoidProof.{VoidProof}
use Rattle.why_answers.specs.declared.explanation.Why.{Why}
use Rattle.project_language.specs.declared.project.Project.{Project}
use Rattle.onprom_core.specs.declared.status.Status.{Status}
use Rattle.onprom_core.specs.declared.status.Status.TheVariants as status
use Rattle.onprom_core.specs.declared.halt.Stopped.{Stopped}
use Rattle.onprom_core.specs.Lines.{answer_refused, limit_line, named_line}
use Rattle.onprom_core.specs.Meaning.{AnswerAs, AreAccepted, AreContradictions, AreVoids, ExplainsAnswer, IsConsistentProject, IsContainedIn, IsCoveredIn, IsExtracted, IsReadBack, IsTooWideToAnswer, IsTooWideToRewrite, IsWide, certain, contradicted_lines, explained, spelled, tbox}
use Rattle.onprom_core.specs.Walk.{Job, Extracting, Checking, Verifying, Answering, Rewriting, Making, Explaining, Linting, Containing, extract_step}

-- a status with what is written for it
pub record Ending : Type 0 where
  pub status : Status
  pub out : List ℕ
  pub report : List ℕ

-- what a walk stops with
abbrev pub stopped_end : Stopped → Ending
stopped_end stopped = record { status = stopped.status; out = []; report = stopped.line }

-- a query is too wide to be rewritten
abbrev pub wide_end : Ending
wide_end = record { status = status.Limit; out = []; report = limit_line (name_of RewritingCount) }

-- the contradictions are reported, and no log is written
abbrev pub clash_end : Project → List Derivation → Ending
clash_end project ds = record { status = status.Conflict; out = []; report = spelled project ds }

-- `extract`: consistency first, then the queries
pub data EndsExtraction (project : Project) (tables : List Loaded) (e : Ending) : Type 0 where
  extracted : IsConsistentProject project tables → (IsWide project → ⊥) → e.status ≡ status.Done → IsExtracted project tables e.out e.report → EndsExtraction project tables e
  too_wide : IsConsistentProject project tables → IsWide project → e ≡ wide_end → EndsExtraction project tables e
  contradicted : (IsConsistentProject project tables → ⊥) → (ds : List Derivation) → AreContradictions project tables ds → IsReadBack project ds → e ≡ clash_end project ds → EndsExtraction project tables e

abbrev pub consistent_end : Ending
consistent_end = record { status = status.Done; out = []; report = codes "consistent\n" }

-- the derivations are written, and the numbers of their constraints are reported
abbrev pub contradicted_end : Project → List Derivation → Ending
contradicted_end project ds = record { status = status.Conflict; out = spelled project ds; report = contradicted_lines ds }

-- `check`
pub data EndsCheck (project : Project) (tables : List Loaded) (e : Ending) : Type 0 where
  consistent : IsConsistentProject project tables → e ≡ consistent_end → EndsCheck project tables e
  contradicted : (IsConsistentProject project tables → ⊥) → (ds : List Derivation) → AreContradictions project tables ds → IsReadBack project ds → e ≡ contradicted_end project ds → EndsCheck project tables e

abbrev pub accepted_end : List Derivation → Ending
accepted_end ds = record { status = status.Done; out = []; report = named_line (codes "accepted ") (decimal (length ds)) (codes "\n") }

-- the derivation of this number is not accepted
abbrev pub refused_end : ℕ → Ending
refused_end number = record { status = status.NotAccepted; out = []; report = named_line (codes "not accepted: ") (decimal number) (codes "\n") }

-- `verify`: all are accepted, or the first that is not is told
pub data EndsVerification (project : Project) (tables : List Loaded) (ds : List Derivation) (e : Ending) : Type 0 where
  accepted : AreAccepted project tables ds → e ≡ accepted_end ds → EndsVerification project tables ds e
  refused : (before : List Derivation) (d : Derivation) (behind : List Derivation) → ds ≡ before ++ d ∷ behind → AreAccepted project tables before
      → (IsAccepted (tbox project) project.sources.mappings tables d → ⊥)
      → e ≡ refused_end (length (d ∷ before)) → EndsVerification project tables ds e

-- `answer`: consistency is not tested
pub data EndsAnswering (project : Project) (tables : List Loaded) (q : Query) (e : Ending) : Type 0 where
  answered : (IsTooWideToAnswer project q → ⊥) → e.status ≡ status.Done → AreAnswers (certain project tables q) e.out e.report → EndsAnswering project tables q e
  too_wide : IsTooWideToAnswer project q → e ≡ wide_end → EndsAnswering project tables q e

-- the queries as they are printed, by the names of the query's variables and of the model
abbrev pub printed : Project → List ℕ → List Query → List ℕ
printed project name qs = queries_text (unwrap_or (variables_named project.noted.variables name) []) project.model.classes project.model.links qs

-- `rewrite`: of the reach in its order, the queries that no other stands for; over known facts they give the certain answers, and none of them maps into another
pub data EndsRewriting (project : Project) (name : List ℕ) (q : Query) (e : Ending) : Type 0 where
  rewritten : (IsTooWideToRewrite project q → ⊥) → (reached kept : List Query) → IsListOf query_cmp (Reach (tbox project).axioms q) reached → AreKept reached kept
      → AnswerAs project q kept → NoneMaps kept
      → e ≡ record { status = status.Done; out = printed project name kept; report = queries_report kept } → EndsRewriting project name q e
  too_wide : IsTooWideToRewrite project q → e ≡ wide_end → EndsRewriting project name q e

-- the explanation is written, and the tuple is reported
abbrev pub explained_end : Project → Why → List Term → Ending
explained_end project why tuple = record { status = status.Done; out = explained project why; report = why_report tuple }

-- there is no answer of this number
abbrev pub unknown_end : ℕ → Ending
unknown_end number = record { status = status.Refused; out = []; report = answer_refused number }

-- `why`: of the certain answers in their order, the one of the number is explained; consistency is not tested
pub data EndsWhy (project : Project) (tables : List Loaded) (q : Query) (number : ℕ) (e : Ending) : Type 0 where
  told : (IsTooWideToAnswer project q → ⊥) → (tuples : List (List Term)) → IsListOf tuple_cmp (certain project tables q) tuples → (tuple : List Term) → item tuples number ≡ Some tuple
      → (why : Why) → ExplainsAnswer project tables q why tuple → e ≡ explained_end project why tuple → EndsWhy project tables q number e
  unknown : (IsTooWideToAnswer project q → ⊥) → (tuples : List (List Term)) → IsListOf tuple_cmp (certain project tables q) tuples → item tuples number ≡ None → e ≡ unknown_end number → EndsWhy project tables q number e
  too_wide : IsTooWideToAnswer project q → e ≡ wide_end → EndsWhy project tables q number e

-- the void classes and links are written, each with its proof, and their count is reported
abbrev pub voids_end : Project → List VoidProof → Ending
voids_end project proofs = record { status = status.Done; out = voids_text project.model.classes project.model.links proofs; report = voids_report proofs }

-- `lint`
pub data EndsLint (project : Project) (e : Ending) : Type 0 where
  linted : (proofs : List VoidProof) → AreVoids project proofs → e ≡ voids_end project proofs → EndsLint project e

-- the printed query of this number, if there is one, maps into the first
abbrev pub containment_end : Option ℕ → Ending
containment_end number = record { status = status.Done; out = containment_text number; report = containment_report number }

-- `contained`
pub data EndsContainment (project : Project) (first second : Query) (e : Ending) : Type 0 where
  contained : (IsTooWideToRewrite project second → ⊥) → IsContainedIn project first second → (number : ℕ) → IsCoveredIn project first second number → e ≡ containment_end (Some number) → EndsContainment project first second e
  not_contained : (IsTooWideToRewrite project second → ⊥) → (IsContainedIn project first second → ⊥) → e ≡ containment_end None → EndsContainment project first second e
  too_wide : IsTooWideToRewrite project second → e ≡ wide_end → EndsContainment project first second e

-- of an extraction that is done, the first line of its report
abbrev pub IsSummary : Ending → Ending → Type 0
IsSummary of e = (of.status ≡ status.Done × e ≡ record { status = status.Done; out = first_line of.report; report = [] })
    ⊎ (of.status ≢ status.Done × e ≡ record { status = of.status; out = []; report = of.report })

-- the extraction of the made project
abbrev pub EndsMade : Result Job Stopped → Ending → Type 0
EndsMade (Ok (Extracting project tables)) e = EndsExtraction project tables e
EndsMade (Ok other) e = ⊥
EndsMade (Err stopped) e = e ≡ stopped_end stopped

-- `make`: a file of the made project, or the first line of the report of its log
abbrev pub EndsMaking : ℕ → List ℕ → Option (List ℕ) → Ending → Type 0
EndsMaking n name (Some text) e = e ≡ record { status = status.Done; out = text; report = [] }
EndsMaking n name None e = (of : Ending) × EndsMade (extract_step (made_files n) (codes "project.txt")).end of × IsSummary of e

-- the end of a job
abbrev pub IsJobEnd : Job → Ending → Type 0
IsJobEnd (Extracting project tables) e = EndsExtraction project tables e
IsJobEnd (Checking project tables) e = EndsCheck project tables e
IsJobEnd (Verifying project tables ds) e = EndsVerification project tables ds e
IsJobEnd (Answering project tables q) e = EndsAnswering project tables q e
IsJobEnd (Rewriting project name q) e = EndsRewriting project name q e
IsJobEnd (Making n name) e = EndsMaking n name (file_of n name) e
IsJobEnd (Explaining project tables q number) e = EndsWhy project tables q number e
IsJobEnd (Linting project) e = EndsLint project e
IsJobEnd (Containing project first second) e = EndsContainment project first second e

-- the end of a walk
abbrev pub IsEnd : Result Job Stopped → Ending → Type 0
IsEnd (Ok job) e = IsJobEnd job e
IsEnd (Err stopped) e = e ≡ stopped_end stopped
