-- What answers that are in order say of a term, as lists that are computed.
use Rattle.std.specs.Prelude.{◌≡◌, ◌==◌, ◌<◌, ◌≤◌, ◌-◌, ℕ, Bool, true, false, List, [], ◌∷◌, Option, Some, None, if◌then◌else◌, filter, filter_map, get_or, length, map}
use Rattle.std.specs.List.{list_any, zip}
use Rattle.std.specs.declared.cmp.Ordering.{Ordering}
use Rattle.std.specs.declared.cmp.Ordering.TheVariants.{Less}
use Rattle.std.specs.Ordering.{is_eq, is_lt}
use Rattle.vocabulary.specs.declared.term.Term.{Term, New', Named, Value}
use Rattle.queries.specs.Order.{term_cmp}
use Rattle.certain_answers.specs.declared.answer_list.Answers.{Answers}
use Rattle.annotation_language.specs.declared.notes.KeySource.{KeySource}
use Rattle.annotation_language.specs.declared.notes.KeySource.TheVariants.{Fixed, Asked as OfQuery}
use Rattle.annotation_language.specs.declared.notes.KeyNote.{KeyNote}
use Rattle.annotation_language.specs.declared.notes.EventNote.{EventNote}
use Rattle.log_assembly.specs.declared.asked.AskedEvent.{AskedEvent}
use Rattle.log_assembly.specs.declared.attributes.Attribute.{Attribute}

-- how the first term of a tuple stands to a term
abbrev pub first_cmp : Term → List Term → Ordering
first_cmp t [] = Less
first_cmp t (s ∷ ss) = term_cmp s t

-- the tuples that begin with a term
abbrev pub begins : Term → List Term → Bool
begins t tuple = is_eq (first_cmp t tuple)

abbrev pub run_of : Term → List (List Term) → List (List Term)
run_of t tuples = filter (begins t) tuples

-- the place is there, and the tuple before it comes before the term
pub record IsBehind (t : Term) (tuples : List (List Term)) (at : ℕ) : Type 0 where
  pub within : at ≤ length tuples
  pub before : 0 < at → is_lt (first_cmp t (get_or tuples (at - 1) [])) ≡ true

-- so it is, and the tuple at the place does not come before the term
pub record IsFirst (t : Term) (tuples : List (List Term)) (at : ℕ) : Type 0 where
  pub behind : IsBehind t tuples at
  pub here : at < length tuples → is_lt (first_cmp t (get_or tuples at [])) ≡ false

-- the second term of a pair
abbrev pub second : List Term → Option Term
second [] = None
second (s ∷ []) = None
second (s ∷ v ∷ []) = Some v
second (s ∷ v ∷ w ∷ ws) = None

-- the second terms of the pairs that begin with a term
abbrev pub values_at : Term → List (List Term) → List Term
values_at t tuples = filter_map second (run_of t tuples)

-- the term is a tuple by itself
abbrev pub stands_alone : List (List Term) → Term → Bool
stands_alone tuples t = list_any (λ tuple. length tuple == 1) (run_of t tuples)

-- the IRI that a term is
abbrev pub iri_of : Term → Option (List ℕ)
iri_of (Named n) = Some n
iri_of (Value k n) = None
iri_of (New' p d s r) = None

abbrev pub case_if : List (List Term) → Option (List ℕ) → Option (List ℕ)
case_if cases None = None
case_if cases (Some c) = if stands_alone cases (Named c) then Some c else None

-- the IRI of a term that is a case
abbrev pub case_in : List (List Term) → Term → Option (List ℕ)
case_in cases t = case_if cases (iri_of t)

-- the cases of an object
abbrev pub cases_at : List (List Term) → Term → List (List Term) → List (List ℕ)
cases_at cases t pairs = filter_map (case_in cases) (values_at t pairs)

-- the IRI of an answer that is one name
abbrev pub lone_name : List Term → Option (List ℕ)
lone_name [] = None
lone_name (t ∷ []) = iri_of t
lone_name (t ∷ u ∷ us) = None

abbrev pub names_of : List (List Term) → List (List ℕ)
names_of tuples = filter_map lone_name tuples

-- the values of a key, in order
abbrev pub values_from : KeySource → Term → Answers → List Term
values_from (Fixed kind text) t answers = Value kind text ∷ []
values_from (OfQuery query side) t answers = values_at t answers.tuples

abbrev pub attribute_of : Term → KeyNote → Answers → Attribute
attribute_of t key answers = record { key = key.key; rule = key.rule; values = values_from key.source t answers }

-- the keys of an object with their values, in the order of the keys
abbrev pub attributes_of : Term → List KeyNote → List Answers → List Attribute
attributes_of t keys answers = map (λ p. attribute_of t p.0 p.1) (zip keys answers)

-- the keys of an object under an event annotation, and its cases
abbrev pub keys_at : EventNote → AskedEvent → List ℕ → List Attribute
keys_at event answers o = attributes_of (Named o) event.keys answers.keys

abbrev pub homes_at : List (List Term) → AskedEvent → List ℕ → List (List ℕ)
homes_at cases answers o = cases_at cases (Named o) answers.cases.tuples
