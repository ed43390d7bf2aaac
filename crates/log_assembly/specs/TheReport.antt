-- What the report of a log says.
use Rattle.std.specs.Prelude.{◌≡◌, ◌⊎◌, ℕ, List, [], ◌∷◌, ◌++◌, codes, decimal, length, map}
use Rattle.std.specs.List.{flat_map, sum_by, zip}
use Rattle.vocabulary.specs.Lists.{In, IsListOf, Pairwise}
use Rattle.vocabulary.specs.Texts.{text_cmp}
use Rattle.xes_writer.specs.declared.log.Log.{Log}
use Rattle.annotation_language.specs.declared.notes.Rule.TheVariants.{Mandatory, Single}
use Rattle.annotation_language.specs.declared.notes.KeyNote.{KeyNote}
use Rattle.annotation_language.specs.declared.notes.EventNote.{EventNote}
use Rattle.annotation_language.specs.declared.notes.Annotations.{Annotations}
use Rattle.log_assembly.specs.declared.verdict.Why.{Why}
use Rattle.log_assembly.specs.declared.verdict.Why.TheVariants.{NoCase, NoValue, SeveralValues}
use Rattle.log_assembly.specs.declared.verdict.Verdict.{Verdict}
use Rattle.log_assembly.specs.declared.verdict.Judgement.{Judgement}
use Rattle.log_assembly.specs.declared.verdict.Verdict.TheVariants.{Kept, Left}
use Rattle.log_assembly.specs.Asked.{Certain, HasNone, HasSeveral, IsCase, IsObject, IsCaseOf, IsValue, IsName}
use Rattle.log_assembly.specs.TheLog.{IsMet, IsKept}
use Rattle.log_assembly.specs.declared.asked.Asked.{Asked}
use Rattle.log_assembly.specs.Answered.{AreAsked}
use Rattle.certain_semantics.specs.Certain.{IsCertain}
use Rattle.dllite_axioms.specs.declared.axioms.Axiom.{Axiom}
use Rattle.vocabulary.specs.declared.term.Fact.{Fact}

module _ (certain : Certain) where
  -- the first mandatory key that does not have exactly one value
  pub data IsFirstUnmet (o : List ℕ) : List KeyNote → Why → Type 0 where
    has_none : {key : KeyNote} {keys : List KeyNote} → key.rule ≡ Mandatory → HasNone (IsValue certain key o) → IsFirstUnmet o (key ∷ keys) (NoValue key.key)
    has_several : {key : KeyNote} {keys : List KeyNote} → key.rule ≡ Mandatory → HasSeveral (IsValue certain key o) → IsFirstUnmet o (key ∷ keys) (SeveralValues key.key)
    beyond : {key : KeyNote} {keys : List KeyNote} {why : Why} → IsMet certain o key → IsFirstUnmet o keys why → IsFirstUnmet o (key ∷ keys) why

  -- no case, else the first unmet key
  abbrev pub IsWhy : Annotations → EventNote → List ℕ → Why → Type 0
  IsWhy notes event o NoCase = HasNone (IsCaseOf certain notes event o)
  IsWhy notes event o (NoValue key) = ((c : List ℕ) × IsCaseOf certain notes event o c) × IsFirstUnmet o event.keys (NoValue key)
  IsWhy notes event o (SeveralValues key) = ((c : List ℕ) × IsCaseOf certain notes event o c) × IsFirstUnmet o event.keys (SeveralValues key)

  -- a single key has several values
  abbrev pub IsDropped : List ℕ → KeyNote → Type 0
  IsDropped o key = (key.rule ≡ Single) × HasSeveral (IsValue certain key o)

  -- the names of the keys that are dropped, in declared order
  abbrev pub AreDropped : List ℕ → List KeyNote → List (List ℕ) → Type 0
  AreDropped o [] names = names ≡ []
  AreDropped o (key ∷ keys) names =
      (IsDropped o key × (rest : List (List ℕ)) × (names ≡ key.key ∷ rest) × AreDropped o keys rest)
      ⊎ ((IsDropped o key → ⊥) × AreDropped o keys names)

  abbrev pub IsVerdict : Annotations → EventNote → List ℕ → Verdict → Type 0
  IsVerdict notes event o (Kept names) = IsKept certain notes event o × AreDropped o event.keys names
  IsVerdict notes event o (Left why) = IsWhy notes event o why

  -- a verdict for each object of an event annotation, in byte order
  pub record AreVerdicts (notes : Annotations) (event : EventNote) (judged : List Judgement) : Type 0 where
    pub objects : IsListOf text_cmp (IsObject certain event) (map (λ j. j.object) judged)
    pub each : (j : Judgement) → In j judged → IsVerdict notes event j.object j.verdict

-- WHY
abbrev pub why_text : Why → List ℕ
why_text NoCase = codes "no case"
why_text (NoValue key) = codes "none " ++ key
why_text (SeveralValues key) = codes "several " ++ key

-- EVENT <IRI>
unfoldable pub event_name : List ℕ → List ℕ → List ℕ
event_name name o = name ++ codes " <" ++ o ++ codes ">"

unfoldable pub dropped_line : List ℕ → List ℕ → List ℕ → List ℕ
dropped_line name o key = codes "several: " ++ event_name name o ++ codes " " ++ key ++ codes "\n"

unfoldable pub left_line : List ℕ → List ℕ → Why → List ℕ
left_line name o why = codes "left out: " ++ event_name name o ++ codes ": " ++ why_text why ++ codes "\n"

-- the lines of an object: one where it is left out, else one for each dropped key
abbrev pub verdict_text : List ℕ → List ℕ → Verdict → List ℕ
verdict_text name o (Kept keys) = flat_map (dropped_line name o) keys
verdict_text name o (Left why) = left_line name o why

abbrev pub left_out : Verdict → ℕ
left_out (Kept keys) = 0
left_out (Left why) = 1

abbrev pub judgement_text : List ℕ → Judgement → List ℕ
judgement_text name j = verdict_text name j.object j.verdict

abbrev pub event_text : EventNote × List Judgement → List ℕ
event_text p = flat_map (judgement_text p.0.name) p.1

unfoldable pub case_line : List ℕ → List ℕ
case_line c = codes "several: case <" ++ c ++ codes "> concept:name\n"

unfoldable pub counts_line : ℕ → ℕ → ℕ → List ℕ
counts_line traces events left = codes "traces " ++ decimal traces ++ codes " events " ++ decimal events ++ codes " left out " ++ decimal left ++ codes "\n"

abbrev pub events_in : Log (List ℕ) → ℕ
events_in log = sum_by (λ trace. length trace.events) log.traces

abbrev pub left_in : List Judgement → ℕ
left_in judged = sum_by (λ j. left_out j.verdict) judged

-- the counts; the cases with several names; and what is said of each object, event by event
abbrev pub report_text : List EventNote → Log (List ℕ) → List (List ℕ) → List (List Judgement) → List ℕ
report_text events log several judged =
    counts_line (length log.traces) (events_in log) (sum_by left_in judged) ++ flat_map case_line several ++ flat_map event_text (zip events judged)

-- the report of a log: of the cases with several names in byte order, and of each event annotation's objects
pub record IsReport (certain : Certain) (notes : Annotations) (log : Log (List ℕ)) (text : List ℕ) : Type 0 where
  pub several : List (List ℕ)
  pub several_listed : IsListOf text_cmp (λ c. IsCase certain notes c × HasSeveral (IsName certain notes c)) several
  pub verdicts : List (List Judgement)
  pub judged : Pairwise (AreVerdicts certain notes) notes.events verdicts
  pub says : text ≡ report_text notes.events log several verdicts

-- the report of a log over the certain answers that are asked for
abbrev pub IsReportOf : Annotations → Asked → Log (List ℕ) → List ℕ → Type 0
IsReportOf notes asked log text = (axioms : List Axiom) (facts : List Fact) → AreAsked (IsCertain axioms facts) notes asked → IsReport (IsCertain axioms facts) notes log text
