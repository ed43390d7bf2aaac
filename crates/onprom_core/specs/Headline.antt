-- The sentences of the commands, over the definitions of a project that is read, and of one that is accepted.
use Rattle.std.specs.Prelude.{◌≡◌, ◌≢◌, ◌⊎◌, ℕ, ◌+◌, ◌<◌, ◌≤◌, true, List, [], ◌∷◌, ◌++◌, codes, decimal, length, Option, None, Some, Ok}
use Rattle.std.specs.Str.{is_utf8}
use Rattle.std.specs.Io.KnownBytes.{Appends, Keeps}
use Rattle.vocabulary.specs.Lists.{IsListOf, item}
use Rattle.vocabulary.specs.declared.term.Term.{Term}
use Rattle.outside.specs.Counts.{Rose}
use Rattle.outside.specs.Files.{bytes_of}
use Rattle.line_lexer.specs.Faults.{limit_of, name_of}
use Rattle.line_lexer.specs.declared.fault.Counted.TheVariants.{File, TablesTogether, Rewriting as RewritingCount}
use Rattle.source_tables.specs.declared.decl.TableDecl.{TableDecl}
use Rattle.source_tables.specs.Tables.{Loaded, table_of}
use Rattle.queries.specs.declared.query.Query.{Query}
use Rattle.queries.specs.Order.{query_cmp, tuple_cmp}
use Rattle.perfect_rewriting.specs.Reach.{Reach}
use Rattle.query_subsumption.specs.Kept.{NoneMaps}
use Rattle.query_subsumption.specs.Subsumption.{AreKept}
use Rattle.answer_text.specs.Answers.{answers_report, answers_text, why_report}
use Rattle.answer_text.specs.Containment.{containment_report, containment_text}
use Rattle.answer_text.specs.Queries.{queries_report}
use Rattle.answer_text.specs.Voids.{voids_report, voids_text}
use Rattle.annotation_language.specs.Complete.{IsComplete}
use Rattle.annotation_language.specs.Named.{query_named}
use Rattle.big_project.specs.Files.{file_of, made_files}
use Rattle.big_project.specs.Summary.{first_line}
use Rattle.conflict_checker.specs.declared.derivation.Derivation.{Derivation}
use Rattle.conflict_checker.specs.Derivations.{IsAccepted}
use Rattle.derivation_text.specs.Reading.{derivations_of}
use Rattle.model_lint.specs.declared.element.VoidProof.{VoidProof}
use Rattle.why_answers.specs.declared.explanation.Why.{Why}
use Rattle.owl_functional.specs.declared.ontology.Ontology.{Ontology}
use Rattle.owl_functional.specs.Ontology.{read_ontology}
use Rattle.project_language.specs.declared.project.Project.{Project}
use Rattle.project_language.specs.Project.{ontology_file}
use Rattle.onprom_core.specs.declared.status.Status.{Status}
use Rattle.onprom_core.specs.declared.status.Status.TheVariants as status
use Rattle.onprom_core.specs.Lines.{answer_refused, limit_line, named_line}
use Rattle.onprom_core.specs.Delivery.{IsFirstEnd}
use Rattle.onprom_core.specs.Jobs.{Ending, printed}
use Rattle.onprom_core.specs.Meaning.{AnswerAs, AreAccepted, AreContradictions, AreVoids, ExplainsAnswer, IsConsistentProject, IsContainedIn, IsCoveredIn, IsExtracted, IsReadBack, IsTooWideToAnswer, IsTooWideToRewrite, IsWide, certain, contradicted_lines, explained, mapping_names, spelled, tbox}
use Rattle.onprom_core.specs.Walk.{Files, project_of}

-- the file is held, and not too long
abbrev pub IsHeld : Files → List ℕ → List ℕ → Type 0
IsHeld files name bytes = (bytes_of files name ≡ Some bytes) × (length bytes ≤ limit_of File)

-- the tables of these declarations, behind some that have so many bytes together
abbrev pub AreTables : Files → ℕ → List TableDecl → List Loaded → Type 0
AreTables files before [] [] = Unit {0}
AreTables files before [] (table ∷ tables) = ⊥
AreTables files before (decl ∷ decls) [] = ⊥
AreTables files before (decl ∷ decls) (table ∷ tables) = (bytes : List ℕ) × IsHeld files decl.file bytes
    × (before + length bytes ≤ limit_of TablesTogether) × (table_of decl bytes ≡ Ok table) × AreTables files (before + length bytes) decls tables

-- the ontology that a text names by this file, where it names one, and none where it names none
abbrev pub IsGiven : Files → Option (List ℕ) → Option Ontology → Type 0
IsGiven files None None = Unit {0}
IsGiven files None (Some ontology) = ⊥
IsGiven files (Some file) None = ⊥
IsGiven files (Some file) (Some ontology) = (bytes : List ℕ) × IsHeld files file bytes × (read_ontology bytes ≡ Ok ontology)

-- the project that a text is: by its own lines where it names no ontology, else over the ontology that it names
pub record IsText (files : Files) (bytes : List ℕ) (project : Project) : Type 0 where
  pub given : Option Ontology
  pub is_given : IsGiven files (ontology_file bytes) given
  pub read : project_of bytes given ≡ Ok project

-- the text of the project has no fault, and each of its tables is one
pub record IsReadProject (files : Files) (p : List ℕ) (project : Project) (tables : List Loaded) : Type 0 where
  pub bytes : List ℕ
  pub held : IsHeld files p bytes
  pub read : IsText files bytes project
  pub loaded : AreTables files 0 project.sources.tables tables

-- a project that is accepted for `extract`: it is read, and its annotations lack nothing
pub record IsAcceptedProject (files : Files) (p : List ℕ) (project : Project) (tables : List Loaded) : Type 0 where
  pub read : IsReadProject files p project tables
  pub complete : IsComplete project.noted.notes

-- the one log was written, and its report
pub record WritesLog (project : Project) (tables : List Loaded) (out out' report report' : Option (List ℕ)) (result : Status) : Type 0 where
  pub done : result ≡ status.Done
  pub text : List ℕ
  pub said : List ℕ
  pub extracted : IsExtracted project tables text said
  pub written : Appends out out' text
  pub reported : Appends report report' said

-- nothing was written, and one accepted derivation was reported for each contradicted constraint and for no other
pub record ReportsContradictions (project : Project) (tables : List Loaded) (out out' report report' : Option (List ℕ)) (result : Status) : Type 0 where
  pub conflict : result ≡ status.Conflict
  pub unwritten : Keeps out out'
  pub derivations : List Derivation
  pub accepted : AreContradictions project tables derivations
  pub read_back : IsReadBack project derivations
  pub reported : Appends report report' (spelled project derivations)

-- a query that the log asks has too many rewritings, and nothing was written
pub record TellsWidth (out out' report report' : Option (List ℕ)) (result : Status) : Type 0 where
  pub limit : result ≡ status.Limit
  pub unwritten : Keeps out out'
  pub reported : Appends report report' (limit_line (name_of RewritingCount))

-- no count of failed calls rose: of the shelf, of the text's sink, of the report's sink
pub record IsQuiet (faults faults' written written' reported reported' : ℕ) : Type 0 where
  pub read : Rose faults faults' → ⊥
  pub wrote : Rose written written' → ⊥
  pub told : Rose reported reported' → ⊥

-- for every accepted project, where no call failed and memory sufficed: the log, where no round of the chase holds a clash and no
-- query that it asks has too many rewritings; the contradictions, where some round holds a clash
abbrev pub Extracts : List (List ℕ) → Files → (faults faults' written written' reported reported' : ℕ) → (out out' report report' : Option (List ℕ)) → Status → Type 0
Extracts words files faults faults' written written' reported reported' out out' report report' result =
    (p : List ℕ) (project : Project) (tables : List Loaded) → words ≡ codes "extract" ∷ p ∷ [] → IsAcceptedProject files p project tables
    → IsQuiet faults faults' written written' reported reported' → result ≢ status.NoMemory
    → (IsConsistentProject project tables → (IsWide project → ⊥) → WritesLog project tables out out' report report' result)
    × (IsConsistentProject project tables → IsWide project → TellsWidth out out' report report' result)
    × ((IsConsistentProject project tables → ⊥) → ReportsContradictions project tables out out' report report' result)

-- what is done is the log of an accepted project in which nothing is contradicted
abbrev pub ExtractsSoundly : List (List ℕ) → Files → (out out' report report' : Option (List ℕ)) → Status → Type 0
ExtractsSoundly words files out out' report report' result =
    (p : List ℕ) → words ≡ codes "extract" ∷ p ∷ [] → result ≡ status.Done
    → (project : Project) × (tables : List Loaded) × IsAcceptedProject files p project tables × IsConsistentProject project tables × WritesLog project tables out out' report report' result

-- nothing is contradicted, and nothing was written
pub record TellsConsistency (out out' report report' : Option (List ℕ)) (result : Status) : Type 0 where
  pub done : result ≡ status.Done
  pub unwritten : Keeps out out'
  pub reported : Appends report report' (codes "consistent\n")

-- one accepted derivation was written for each contradicted constraint and for no other, and the numbers of these were reported
pub record WritesContradictions (project : Project) (tables : List Loaded) (out out' report report' : Option (List ℕ)) (result : Status) : Type 0 where
  pub conflict : result ≡ status.Conflict
  pub derivations : List Derivation
  pub accepted : AreContradictions project tables derivations
  pub read_back : IsReadBack project derivations
  pub written : Appends out out' (spelled project derivations)
  pub reported : Appends report report' (contradicted_lines derivations)

-- for every project that is read, where no call failed and memory sufficed: it is told that the project is consistent, where no round
-- of the chase holds a clash; what contradicts it is written, where some round does
abbrev pub Checks : List (List ℕ) → Files → (faults faults' written written' reported reported' : ℕ) → (out out' report report' : Option (List ℕ)) → Status → Type 0
Checks words files faults faults' written written' reported reported' out out' report report' result =
    (p : List ℕ) (project : Project) (tables : List Loaded) → words ≡ codes "check" ∷ p ∷ [] → IsReadProject files p project tables
    → IsQuiet faults faults' written written' reported reported' → result ≢ status.NoMemory
    → (IsConsistentProject project tables → TellsConsistency out out' report report' result)
    × ((IsConsistentProject project tables → ⊥) → WritesContradictions project tables out out' report report' result)

-- what is done told of a project that is read that nothing contradicts it
abbrev pub ChecksSoundly : List (List ℕ) → Files → (out out' report report' : Option (List ℕ)) → Status → Type 0
ChecksSoundly words files out out' report report' result =
    (p : List ℕ) → words ≡ codes "check" ∷ p ∷ [] → result ≡ status.Done
    → (project : Project) × (tables : List Loaded) × IsReadProject files p project tables × IsConsistentProject project tables × TellsConsistency out out' report report' result

-- the text of the file is that of these derivations, by the names of the project's mappings
pub record AreReadDerivations (files : Files) (project : Project) (d : List ℕ) (ds : List Derivation) : Type 0 where
  pub bytes : List ℕ
  pub held : IsHeld files d bytes
  pub utf8 : is_utf8 bytes ≡ true
  pub read : derivations_of (mapping_names project) bytes ≡ Ok ds

-- all of the derivations are accepted, and their count was reported
pub record TellsAccepted (ds : List Derivation) (out out' report report' : Option (List ℕ)) (result : Status) : Type 0 where
  pub done : result ≡ status.Done
  pub unwritten : Keeps out out'
  pub reported : Appends report report' (named_line (codes "accepted ") (decimal (length ds)) (codes "\n"))

-- one is not accepted, and the number of the first was reported, counted from 1
pub record TellsRefused (project : Project) (tables : List Loaded) (ds : List Derivation) (out out' report report' : Option (List ℕ)) (result : Status) : Type 0 where
  pub not_accepted : result ≡ status.NotAccepted
  pub unwritten : Keeps out out'
  pub before : List Derivation
  pub first : Derivation
  pub behind : List Derivation
  pub parts : ds ≡ before ++ first ∷ behind
  pub accepted : AreAccepted project tables before
  pub refused : IsAccepted (tbox project) project.sources.mappings tables first → ⊥
  pub reported : Appends report report' (named_line (codes "not accepted: ") (decimal (length (first ∷ before))) (codes "\n"))

-- for every project and derivations that are read, where no call failed and memory sufficed: all are accepted, or the first is told that is not
abbrev pub Verifies : List (List ℕ) → Files → (faults faults' written written' reported reported' : ℕ) → (out out' report report' : Option (List ℕ)) → Status → Type 0
Verifies words files faults faults' written written' reported reported' out out' report report' result =
    (p d : List ℕ) (project : Project) (tables : List Loaded) (ds : List Derivation) → words ≡ codes "verify" ∷ p ∷ d ∷ [] → IsReadProject files p project tables → AreReadDerivations files project d ds
    → IsQuiet faults faults' written written' reported reported' → result ≢ status.NoMemory
    → (AreAccepted project tables ds → TellsAccepted ds out out' report report' result)
    × ((AreAccepted project tables ds → ⊥) → TellsRefused project tables ds out out' report report' result)

-- what is done told of a project and derivations that are read that all of these are accepted
abbrev pub VerifiesSoundly : List (List ℕ) → Files → (out out' report report' : Option (List ℕ)) → Status → Type 0
VerifiesSoundly words files out out' report report' result =
    (p d : List ℕ) → words ≡ codes "verify" ∷ p ∷ d ∷ [] → result ≡ status.Done
    → (project : Project) × (tables : List Loaded) × (ds : List Derivation) × IsReadProject files p project tables × AreReadDerivations files project d ds
    × AreAccepted project tables ds × TellsAccepted ds out out' report report' result

-- the certain answers were written in increasing order, one line for each, and their count was reported
pub record WritesAnswers (project : Project) (tables : List Loaded) (q : Query) (out out' report report' : Option (List ℕ)) (result : Status) : Type 0 where
  pub done : result ≡ status.Done
  pub tuples : List (List Term)
  pub listed : IsListOf tuple_cmp (certain project tables q) tuples
  pub written : Appends out out' (answers_text tuples)
  pub reported : Appends report report' (answers_report tuples)

-- for every project that is read and each query that can be asked by its name, where no call failed and memory sufficed: its certain
-- answers, whether the project is consistent or not; the limit, where the query has too many rewritings
abbrev pub Answers : List (List ℕ) → Files → (faults faults' written written' reported reported' : ℕ) → (out out' report report' : Option (List ℕ)) → Status → Type 0
Answers words files faults faults' written written' reported reported' out out' report report' result =
    (p name : List ℕ) (project : Project) (tables : List Loaded) (q : Query) → words ≡ codes "answer" ∷ p ∷ name ∷ [] → IsReadProject files p project tables → query_named project.noted.notes name ≡ Some q
    → IsQuiet faults faults' written written' reported reported' → result ≢ status.NoMemory
    → ((IsTooWideToAnswer project q → ⊥) → WritesAnswers project tables q out out' report report' result)
    × (IsTooWideToAnswer project q → TellsWidth out out' report report' result)

-- an explanation was written that explains the tuple, and the tuple was reported
pub record WritesExplanation (project : Project) (tables : List Loaded) (q : Query) (tuple : List Term) (out out' report report' : Option (List ℕ)) (result : Status) : Type 0 where
  pub done : result ≡ status.Done
  pub why : Why
  pub explains : ExplainsAnswer project tables q why tuple
  pub written : Appends out out' (explained project why)
  pub reported : Appends report report' (why_report tuple)

-- there is no answer of this number, and nothing was written
pub record TellsUnknown (number : ℕ) (out out' report report' : Option (List ℕ)) (result : Status) : Type 0 where
  pub refused : result ≡ status.Refused
  pub unwritten : Keeps out out'
  pub reported : Appends report report' (answer_refused number)

-- for every project that is read, each query that can be asked by its name and each number from 1 to 4,294,967,295, where no call failed
-- and memory sufficed: why the tuple of this number among the certain answers in their order is one, or that there are fewer; the limit,
-- where the query has too many rewritings
abbrev pub Explains : List (List ℕ) → Files → (faults faults' written written' reported reported' : ℕ) → (out out' report report' : Option (List ℕ)) → Status → Type 0
Explains words files faults faults' written written' reported reported' out out' report report' result =
    (p name : List ℕ) (number : ℕ) (project : Project) (tables : List Loaded) (q : Query) → 1 ≤ number → number ≤ 4_294_967_295 → words ≡ codes "why" ∷ p ∷ name ∷ decimal number ∷ []
    → IsReadProject files p project tables → query_named project.noted.notes name ≡ Some q
    → IsQuiet faults faults' written written' reported reported' → result ≢ status.NoMemory
    → ((IsTooWideToAnswer project q → ⊥) → (tuples : List (List Term)) → IsListOf tuple_cmp (certain project tables q) tuples
    → ((tuple : List Term) → item tuples number ≡ Some tuple → WritesExplanation project tables q tuple out out' report report' result)
    × (length tuples < number → TellsUnknown number out out' report report' result))
    × (IsTooWideToAnswer project q → TellsWidth out out' report report' result)

-- what is done explained the certain answer of the number
abbrev pub ExplainsSoundly : List (List ℕ) → Files → (out out' report report' : Option (List ℕ)) → Status → Type 0
ExplainsSoundly words files out out' report report' result =
    (p name : List ℕ) (number : ℕ) → 1 ≤ number → number ≤ 4_294_967_295 → words ≡ codes "why" ∷ p ∷ name ∷ decimal number ∷ [] → result ≡ status.Done
    → (project : Project) × (tables : List Loaded) × (q : Query) × (tuples : List (List Term)) × (tuple : List Term)
    × IsReadProject files p project tables × (query_named project.noted.notes name ≡ Some q) × IsListOf tuple_cmp (certain project tables q) tuples × (item tuples number ≡ Some tuple)
    × WritesExplanation project tables q tuple out out' report report' result

-- the text of the file is that of the project; its tables are not asked for
pub record IsProjectOf (files : Files) (p : List ℕ) (project : Project) : Type 0 where
  pub bytes : List ℕ
  pub held : IsHeld files p bytes
  pub read : IsText files bytes project

-- queries were written, and their count was reported: those of the reach, in its order, for which no other stands. Over every known
-- list of facts they give exactly the certain answers, and none of them maps into another
pub record WritesRewriting (project : Project) (name : List ℕ) (q : Query) (out out' report report' : Option (List ℕ)) (result : Status) : Type 0 where
  pub done : result ≡ status.Done
  pub reached : List Query
  pub listed : IsListOf query_cmp (Reach (tbox project).axioms q) reached
  pub queries : List Query
  pub kept : AreKept reached queries
  pub answers : AnswerAs project q queries
  pub minimal : NoneMaps queries
  pub written : Appends out out' (printed project name queries)
  pub reported : Appends report report' (queries_report queries)

-- for every project, whatever its tables are, and each query that can be asked by its name, where no call failed and memory
-- sufficed: its rewriting; the limit, where the query has too many
abbrev pub Rewrites : List (List ℕ) → Files → (faults faults' written written' reported reported' : ℕ) → (out out' report report' : Option (List ℕ)) → Status → Type 0
Rewrites words files faults faults' written written' reported reported' out out' report report' result =
    (p name : List ℕ) (project : Project) (q : Query) → words ≡ codes "rewrite" ∷ p ∷ name ∷ [] → IsProjectOf files p project → query_named project.noted.notes name ≡ Some q
    → IsQuiet faults faults' written written' reported reported' → result ≢ status.NoMemory
    → ((IsTooWideToRewrite project q → ⊥) → WritesRewriting project name q out out' report report' result)
    × (IsTooWideToRewrite project q → TellsWidth out out' report report' result)

-- the void classes and then the void links were written by their numbers, each with a proof, and no others; their count was reported
pub record WritesVoids (project : Project) (out out' report report' : Option (List ℕ)) (result : Status) : Type 0 where
  pub done : result ≡ status.Done
  pub proofs : List VoidProof
  pub voids : AreVoids project proofs
  pub written : Appends out out' (voids_text project.model.classes project.model.links proofs)
  pub reported : Appends report report' (voids_report proofs)

-- for every project, whatever its tables are, where no call failed and memory sufficed: what is void in its model
abbrev pub Lints : List (List ℕ) → Files → (faults faults' written written' reported reported' : ℕ) → (out out' report report' : Option (List ℕ)) → Status → Type 0
Lints words files faults faults' written written' reported reported' out out' report report' result =
    (p : List ℕ) (project : Project) → words ≡ codes "lint" ∷ p ∷ [] → IsProjectOf files p project
    → IsQuiet faults faults' written written' reported reported' → result ≢ status.NoMemory
    → WritesVoids project out out' report report' result

-- what is done wrote of a project that is read what is void in its model
abbrev pub LintsSoundly : List (List ℕ) → Files → (out out' report report' : Option (List ℕ)) → Status → Type 0
LintsSoundly words files out out' report report' result =
    (p : List ℕ) → words ≡ codes "lint" ∷ p ∷ [] → result ≡ status.Done
    → (project : Project) × IsProjectOf files p project × WritesVoids project out out' report report' result

-- what was found was written and reported: the number of a printed query, or that there is none
pub record WritesContainment (number : Option ℕ) (out out' report report' : Option (List ℕ)) (result : Status) : Type 0 where
  pub done : result ≡ status.Done
  pub written : Appends out out' (containment_text number)
  pub reported : Appends report report' (containment_report number)

-- the number was told by which the first query is covered
abbrev pub TellsPlace : Project → Query → Query → (out out' report report' : Option (List ℕ)) → Status → Type 0
TellsPlace project first second out out' report report' result = (number : ℕ) × IsCoveredIn project first second number × WritesContainment (Some number) out out' report report' result

-- the two queries can be asked by their names, and their heads have one length
pub record AreComparable (project : Project) (q r : List ℕ) (first second : Query) : Type 0 where
  pub one : query_named project.noted.notes q ≡ Some first
  pub other : query_named project.noted.notes r ≡ Some second
  pub heads : length first.head ≡ length second.head

-- for every project, whatever its tables are, and all two queries that are comparable, where no call failed and memory sufficed: whether
-- over every known list of facts the certain answers of the first are certain answers of the second; the limit, where the second has
-- too many rewritings
abbrev pub Compares : List (List ℕ) → Files → (faults faults' written written' reported reported' : ℕ) → (out out' report report' : Option (List ℕ)) → Status → Type 0
Compares words files faults faults' written written' reported reported' out out' report report' result =
    (p q r : List ℕ) (project : Project) (first second : Query) → words ≡ codes "contained" ∷ p ∷ q ∷ r ∷ [] → IsProjectOf files p project → AreComparable project q r first second
    → IsQuiet faults faults' written written' reported reported' → result ≢ status.NoMemory
    → ((IsTooWideToRewrite project second → ⊥) → IsContainedIn project first second → TellsPlace project first second out out' report report' result)
    × ((IsTooWideToRewrite project second → ⊥) → (IsContainedIn project first second → ⊥) → WritesContainment None out out' report report' result)
    × (IsTooWideToRewrite project second → TellsWidth out out' report report' result)

-- what is done told of two comparable queries whether the first is contained in the second
abbrev pub ComparesSoundly : List (List ℕ) → Files → (out out' report report' : Option (List ℕ)) → Status → Type 0
ComparesSoundly words files out out' report report' result =
    (p q r : List ℕ) → words ≡ codes "contained" ∷ p ∷ q ∷ r ∷ [] → result ≡ status.Done
    → (project : Project) × (first : Query) × (second : Query) × IsProjectOf files p project × AreComparable project q r first second
    × ((IsContainedIn project first second × TellsPlace project first second out out' report report' result)
    ⊎ ((IsContainedIn project first second → ⊥) × WritesContainment None out out' report report' result))

-- the text was written, and nothing was reported
pub record WritesAlone (text : List ℕ) (out out' report report' : Option (List ℕ)) (result : Status) : Type 0 where
  pub done : result ≡ status.Done
  pub written : Appends out out' text
  pub unreported : Keeps report report'

-- `extract project.txt` over these files comes to an end: the first line of its report was written where it is done, else its report was reported
pub record Summarises (files : Files) (out out' report report' : Option (List ℕ)) (result : Status) : Type 0 where
  pub extraction : Ending
  pub first : IsFirstEnd (codes "extract" ∷ codes "project.txt" ∷ []) files extraction
  pub same : result ≡ extraction.status
  pub done : result ≡ status.Done → Appends out out' (first_line extraction.report) × Keeps report report'
  pub other : result ≢ status.Done → Keeps out out' × Appends report report' extraction.report

-- the first line of the report of the one log was written, and nothing was reported
pub record WritesSummary (project : Project) (tables : List Loaded) (out out' report report' : Option (List ℕ)) (result : Status) : Type 0 where
  pub text : List ℕ
  pub said : List ℕ
  pub extracted : IsExtracted project tables text said
  pub alone : WritesAlone (first_line said) out out' report report' result

-- for every number of documents from 1 to 100,000, where no write failed and memory sufficed: each file of the made project; for
-- `summary` what `extract` comes to over those files, which for an accepted project without contradictions is the first line of the
-- report of its one log. The shelf is not spoken of
abbrev pub Makes : List (List ℕ) → (written written' reported reported' : ℕ) → (out out' report report' : Option (List ℕ)) → Status → Type 0
Makes words written written' reported reported' out out' report report' result =
    (n : ℕ) (name : List ℕ) → 1 ≤ n → n ≤ 100_000 → words ≡ codes "make" ∷ decimal n ∷ name ∷ []
    → (Rose written written' → ⊥) → (Rose reported reported' → ⊥) → result ≢ status.NoMemory
    → ((text : List ℕ) → file_of n name ≡ Some text → WritesAlone text out out' report report' result)
    × (name ≡ codes "summary" → Summarises (made_files n) out out' report report' result)
    × ((project : Project) (tables : List Loaded) → name ≡ codes "summary" → IsAcceptedProject (made_files n) (codes "project.txt") project tables
    → IsConsistentProject project tables → (IsWide project → ⊥) → WritesSummary project tables out out' report report' result)
