-- What a project and its tables mean: axioms and constraints, facts, certain answers, consistency, the log and the contradictions.
use Rattle.std.specs.Prelude.{◌≡◌, ◌↔◌, ℕ, true, List, length, map, codes, decimal, Ok}
use Rattle.std.specs.List.{flat_map}
use Rattle.std.specs.Str.{is_utf8}
use Rattle.vocabulary.specs.Lists.{In, IsListOf}
use Rattle.vocabulary.specs.declared.term.Fact.{Fact}
use Rattle.vocabulary.specs.declared.term.Term.{Term}
use Rattle.dllite_axioms.specs.declared.axioms.Tbox.{Tbox}
use Rattle.dllite_axioms.specs.Chase.{AreKnown}
use Rattle.dllite_axioms.specs.Clashes.{IsConsistent}
use Rattle.source_tables.specs.Tables.{Loaded}
use Rattle.mapping_facts.specs.Facts.{mapped_facts}
use Rattle.queries.specs.declared.query.Query.{Query}
use Rattle.certain_semantics.specs.Certain.{IsCertain}
use Rattle.perfect_rewriting.specs.Rewriting.{IsTooWide as HasWideReach}
use Rattle.fold_rewriting.specs.Listing.{IsTooWide}
use Rattle.certain_answers.specs.Specified.{Specified}
use Rattle.query_subsumption.specs.Kept.{HasImage}
use Rattle.xes_writer.specs.declared.log.Log.{Log}
use Rattle.xes_writer.specs.Xes.{xes_text}
use Rattle.log_assembly.specs.Asked.{Certain}
use Rattle.log_assembly.specs.Answered.{Asks}
use Rattle.log_assembly.specs.TheLog.{IsLog}
use Rattle.log_assembly.specs.TheReport.{IsReport}
use Rattle.conflict_checker.specs.declared.derivation.Derivation.{Derivation}
use Rattle.conflict_checker.specs.Derivations.{IsAccepted}
use Rattle.consistency_check.specs.Contradictions.{AreContradictions as ContradictionsOf}
use Rattle.derivation_text.specs.Explaining.{explanation_text}
use Rattle.derivation_text.specs.Reading.{derivations_of}
use Rattle.derivation_text.specs.Writing.{derivations_text}
use Rattle.onprom_core.specs.Lines.{named_line}
use Rattle.why_answers.specs.Explanations.{Explains}
use Rattle.why_answers.specs.declared.explanation.Why.{Why}
use Rattle.model_lint.specs.Containment.{IsContained, IsCovered}
use Rattle.model_lint.specs.Voids.{IsElement, IsVoid, Shows, elements_of, void_cmp}
use Rattle.model_lint.specs.declared.element.Void.{Void}
use Rattle.model_lint.specs.declared.element.VoidProof.{VoidProof}
use Rattle.project_language.specs.Meant.{tbox as meant_tbox}
use Rattle.project_language.specs.declared.project.Project.{Project}

-- what its ontology gives, where it names one, else what its model lines mean
abbrev pub tbox : Project → Tbox
tbox project = meant_tbox project

-- of what its queries are asked
abbrev pub specified : Project → Specified
specified project = record { axioms = (tbox project).axioms; mappings = project.sources.mappings }

-- what the tables say
abbrev pub facts : Project → List Loaded → List Fact
facts project tables = mapped_facts project.sources.mappings tables

-- the certain answers over the chase of the mapped facts
abbrev pub certain : Project → List Loaded → Certain
certain project tables = IsCertain (tbox project).axioms (facts project tables)

-- no round of the chase of the mapped facts holds a clash
abbrev pub IsConsistentProject : Project → List Loaded → Type 0
IsConsistentProject project tables = IsConsistent (tbox project).axioms (tbox project).constraints (facts project tables)

-- a query has too many folds to be answered
abbrev pub IsTooWideToAnswer : Project → Query → Type 0
IsTooWideToAnswer project q = IsTooWide (tbox project).axioms q

-- a query has too many rewritings to be printed
abbrev pub IsTooWideToRewrite : Project → Query → Type 0
IsTooWideToRewrite project q = HasWideReach (tbox project).axioms q

-- over every known list of facts, the head images of these queries are exactly the certain answers of the query
abbrev pub AnswerAs : Project → Query → List Query → Type 0
AnswerAs project q qs = (facts : List Fact) → AreKnown facts → (tuple : List Term) → IsCertain (tbox project).axioms facts q tuple ↔ HasImage facts qs tuple

-- the names of the mappings
abbrev pub mapping_names : Project → List (List ℕ)
mapping_names project = map (λ m. m.name) project.sources.mappings

-- the steps and what they have for the atoms of the query explain the tuple
abbrev pub ExplainsAnswer : Project → List Loaded → Query → Why → List Term → Type 0
ExplainsAnswer project tables q why tuple = Explains (tbox project) project.sources.mappings tables q why tuple

-- the text of an explanation, by the names of the project's mappings
abbrev pub explained : Project → Why → List ℕ
explained project why = explanation_text (mapping_names project) why.steps why.atoms

-- the class or the link is one of the model, and no consistent list of known facts holds a fact of it
abbrev pub IsVoidIn : Project → Void → Type 0
IsVoidIn project v = IsElement (length project.model.classes) (length project.model.links) v × IsVoid (tbox project) v

-- one proof for each void class, by number, then for each void link, by number, and for no other
pub record AreVoids (project : Project) (proofs : List VoidProof) : Type 0 where
  pub listed : IsListOf void_cmp (IsVoidIn project) (elements_of proofs)
  pub shown : (proof : VoidProof) → In proof proofs → Shows (tbox project) proof

-- over every known list of facts, the certain answers of the first query are certain answers of the second
abbrev pub IsContainedIn : Project → Query → Query → Type 0
IsContainedIn project first second = IsContained (tbox project).axioms first second

-- of the queries that are printed for the rewriting of the second query, the first that maps into the first query has this number, counted from 1
abbrev pub IsCoveredIn : Project → Query → Query → ℕ → Type 0
IsCoveredIn project first second number = IsCovered (tbox project).axioms first second number

-- one of the queries that a log asks has too many
abbrev pub IsWide : Project → Type 0
IsWide project = (q : Query) × Asks project.noted.notes q × IsTooWideToAnswer project q

-- the texts are those of the one log and of its report
pub record IsExtracted (project : Project) (tables : List Loaded) (out report : List ℕ) : Type 0 where
  pub log : Log (List ℕ)
  pub the_log : IsLog (certain project tables) project.noted.notes log
  pub text : out ≡ xes_text log
  pub reported : IsReport (certain project tables) project.noted.notes log report

-- one accepted derivation for each contradicted constraint and for no other, in the order of the constraints
abbrev pub AreContradictions : Project → List Loaded → List Derivation → Type 0
AreContradictions project tables ds = ContradictionsOf (tbox project) project.sources.mappings tables (length (tbox project).constraints) ds

-- the text of derivations, by the names of the project's mappings
abbrev pub spelled : Project → List Derivation → List ℕ
spelled project ds = derivations_text (mapping_names project) ds

-- that text is UTF-8, and it is read as just these derivations
pub record IsReadBack (project : Project) (ds : List Derivation) : Type 0 where
  pub utf8 : is_utf8 (spelled project ds) ≡ true
  pub read : derivations_of (mapping_names project) (spelled project ds) ≡ Ok ds

-- `contradicted C` for each
abbrev pub contradicted_lines : List Derivation → List ℕ
contradicted_lines ds = flat_map (λ d. named_line (codes "contradicted ") (decimal d.constraint) (codes "\n")) ds

-- each of these derivations is accepted
abbrev pub AreAccepted : Project → List Loaded → List Derivation → Type 0
AreAccepted project tables ds = (d : Derivation) → In d ds → IsAccepted (tbox project) project.sources.mappings tables d
