-- What annotations ask, and which answers are those that they ask for.
use Rattle.std.specs.Prelude.{◌≡◌, List, ◌∷◌, ◌++◌, Option, Some, None, option_to_list, filter_map}
use Rattle.std.specs.List.{flat_map, All}
use Rattle.std.specs.List.Sorted.{IsStrictlySortedBy}
use Rattle.vocabulary.specs.Lists.{In, IsListOf, Pairwise}
use Rattle.dllite_axioms.specs.declared.axioms.Axiom.{Axiom}
use Rattle.queries.specs.declared.query.Query.{Query}
use Rattle.queries.specs.Order.{tuple_cmp}
use Rattle.fold_rewriting.specs.Listing.{IsTooWide}
use Rattle.certain_answers.specs.declared.answer_list.Answers.{Answers}
use Rattle.annotation_language.specs.declared.notes.KeySource.{KeySource}
use Rattle.annotation_language.specs.declared.notes.KeySource.TheVariants.{Fixed, Asked as OfQuery}
use Rattle.annotation_language.specs.declared.notes.KeyNote.{KeyNote}
use Rattle.annotation_language.specs.declared.notes.EventNote.{EventNote}
use Rattle.annotation_language.specs.declared.notes.Annotations.{Annotations}
use Rattle.log_assembly.specs.declared.asked.AskedEvent.{AskedEvent}
use Rattle.log_assembly.specs.declared.asked.Asked.{Asked}
use Rattle.log_assembly.specs.Asked.{Certain, IsAnswer}

-- a constant asks nothing
abbrev pub query_of : KeySource → Option Query
query_of (Fixed kind text) = None
query_of (OfQuery query side) = Some query

-- the queries of an event: its objects, their cases, and the keys that are asked
abbrev pub event_queries : EventNote → List Query
event_queries event = event.objects ∷ option_to_list event.cases ++ filter_map (λ key. query_of key.source) event.keys

-- the queries of annotations: the cases, their names, and those of each event; `query` lines are not asked
abbrev pub asked_queries : Annotations → List Query
asked_queries notes = option_to_list notes.case_query ++ option_to_list notes.case_name ++ flat_map event_queries notes.events

-- the annotations ask this query
abbrev pub Asks : Annotations → Query → Type 0
Asks notes query = In query (asked_queries notes)

-- a query that the annotations ask is too wide to be answered
abbrev pub AsksTooWide : List Axiom → Annotations → Type 0
AsksTooWide axioms notes = (query : Query) × Asks notes query × IsTooWide axioms query

-- the query is there, and too wide
abbrev pub MayBeTooWide : List Axiom → Option Query → Type 0
MayBeTooWide axioms o = (query : Query) × (o ≡ Some query) × IsTooWide axioms query

-- one item of the list is so
abbrev pub HasOne : {X : Type 0} → (X → Type 0) → List X → Type 0
HasOne {X} P xs = (x : X) × In x xs × P x

-- the query of a key, or one of an event, is too wide
abbrev pub KeyIsTooWide : List Axiom → KeyNote → Type 0
KeyIsTooWide axioms key = MayBeTooWide axioms (query_of key.source)

abbrev pub EventIsTooWide : List Axiom → EventNote → Type 0
EventIsTooWide axioms event = HasOne (IsTooWide axioms) (event_queries event)

module _ (certain : Certain) where
  -- all answers of a query, in order and each once; where there is no query there is no answer
  abbrev pub AreAnswersOf : Option Query → Answers → Type 0
  AreAnswersOf query answers = IsListOf tuple_cmp (IsAnswer certain query) answers.tuples

  -- the answers that an event annotation asks for
  pub record IsEventAsked (event : EventNote) (asked : AskedEvent) : Type 0 where
    pub objects : AreAnswersOf (Some event.objects) asked.objects
    pub cases : AreAnswersOf event.cases asked.cases
    pub keys : Pairwise (λ (key : KeyNote) (answers : Answers). AreAnswersOf (query_of key.source) answers) event.keys asked.keys

  -- the answers that annotations ask for
  pub record AreAsked (notes : Annotations) (asked : Asked) : Type 0 where
    pub cases : AreAnswersOf notes.case_query asked.cases
    pub names : AreAnswersOf notes.case_name asked.names
    pub events : Pairwise IsEventAsked notes.events asked.events

-- each list of answers is in order, as those of a query are
abbrev pub InOrder : Answers → Type 0
InOrder answers = IsStrictlySortedBy tuple_cmp answers.tuples

pub record IsEventInOrder (asked : AskedEvent) : Type 0 where
  pub objects : InOrder asked.objects
  pub cases : InOrder asked.cases
  pub keys : All InOrder asked.keys

pub record IsInOrder (asked : Asked) : Type 0 where
  pub cases : InOrder asked.cases
  pub names : InOrder asked.names
  pub events : All IsEventInOrder asked.events
