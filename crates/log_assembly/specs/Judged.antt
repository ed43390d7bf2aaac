-- Verdicts, attributes and times, computed from an object's keys with their values.
use Rattle.std.specs.Prelude.{◌==◌, ℕ, Bool, true, false, not, List, [], ◌∷◌, Option, Some, None, if◌then◌else◌, codes, filter, filter_map, find, is_some, length, map, nat_lt}
use Rattle.std.specs.List.{flat_map}
use Rattle.std.specs.Str.{bytes_eq}
use Rattle.vocabulary.specs.declared.ids.ValueKind.TheVariants.{Text, Int, Bool as BoolKind, Time}
use Rattle.vocabulary.specs.declared.term.Term.{Term, New', Named, Value}
use Rattle.xes_writer.specs.declared.log.Entry.{Entry}
use Rattle.annotation_language.specs.declared.notes.Rule.{Rule}
use Rattle.annotation_language.specs.declared.notes.Rule.TheVariants.{Mandatory, Single, Many}
use Rattle.log_assembly.specs.declared.attributes.Attribute.{Attribute}
use Rattle.log_assembly.specs.declared.verdict.Why.{Why}
use Rattle.log_assembly.specs.declared.verdict.Why.TheVariants.{NoCase, NoValue, SeveralValues}
use Rattle.log_assembly.specs.declared.verdict.Verdict.{Verdict}
use Rattle.log_assembly.specs.declared.verdict.Verdict.TheVariants.{Kept, Left}
use Rattle.log_assembly.specs.declared.verdict.Judgement.{Judgement}
use Rattle.log_assembly.specs.declared.asked.AskedEvent.{AskedEvent}
use Rattle.annotation_language.specs.declared.notes.EventNote.{EventNote}
use Rattle.log_assembly.specs.Found.{homes_at, keys_at, names_of, values_at}
use Rattle.log_assembly.specs.TheLog.{entry_of, numbered}

-- a mandatory key has one value
abbrev pub met_by : Rule → List Term → Bool
met_by Mandatory vs = length vs == 1
met_by Single vs = true
met_by Many vs = true

abbrev pub is_met : Attribute → Bool
is_met a = met_by a.rule a.values

abbrev pub first_unmet : List Attribute → Option Attribute
first_unmet attributes = find (λ a. not (is_met a)) attributes

-- why an object is left out for a key that is not met
abbrev pub why_of : Attribute → Why
why_of a = if length a.values == 0 then NoValue a.key else SeveralValues a.key

-- a single key has several values
abbrev pub dropped_by : Rule → List Term → Bool
dropped_by Mandatory vs = false
dropped_by Single vs = nat_lt 1 (length vs)
dropped_by Many vs = false

abbrev pub is_dropped : Attribute → Bool
is_dropped a = dropped_by a.rule a.values

abbrev pub dropped : List Attribute → List (List ℕ)
dropped attributes = map (λ a. a.key) (filter is_dropped attributes)

abbrev pub verdict_by : List Attribute → Option Attribute → Verdict
verdict_by attributes None = Kept (dropped attributes)
verdict_by attributes (Some a) = Left (why_of a)

abbrev pub verdict_of : List Attribute → List (List ℕ) → Verdict
verdict_of attributes [] = Left NoCase
verdict_of attributes (c ∷ cs) = verdict_by attributes (first_unmet attributes)

abbrev pub is_kept : List Attribute → List (List ℕ) → Bool
is_kept attributes [] = false
is_kept attributes (c ∷ cs) = not (is_some (first_unmet attributes))

-- the attribute of the one value, if it is one
abbrev pub lone_entry : List ℕ → List Term → List (Entry (List ℕ))
lone_entry key [] = []
lone_entry key (v ∷ []) = entry_of key v ∷ []
lone_entry key (v ∷ w ∷ vs) = []

abbrev pub entries_by : Rule → List ℕ → List Term → List (Entry (List ℕ))
entries_by Mandatory key vs = lone_entry key vs
entries_by Single key vs = lone_entry key vs
entries_by Many key vs = numbered key 1 vs

abbrev pub entries_at : Attribute → List (Entry (List ℕ))
entries_at a = entries_by a.rule a.key a.values

abbrev pub entries_of : List Attribute → List (Entry (List ℕ))
entries_of attributes = flat_map entries_at attributes

-- the instant that a term is
abbrev pub time_of : Term → Option (List ℕ)
time_of (Named n) = None
time_of (Value Text t) = None
time_of (Value Int t) = None
time_of (Value BoolKind t) = None
time_of (Value Time t) = Some t
time_of (New' p d s r) = None

abbrev pub times_at : Attribute → List (List ℕ)
times_at a = if bytes_eq a.key (codes "time:timestamp") then filter_map time_of a.values else []

-- the times of an object's event
abbrev pub times_of : List Attribute → List (List ℕ)
times_of attributes = flat_map times_at attributes

-- an object with its verdict
abbrev pub judgement_of : List (List Term) → EventNote → AskedEvent → List ℕ → Judgement
judgement_of cases event answers o = record { object = o; verdict = verdict_of (keys_at event answers o) (homes_at cases answers o) }

-- the objects of an event annotation with their verdicts
abbrev pub judgements_of : List (List Term) → EventNote × AskedEvent → List Judgement
judgements_of cases p = map (judgement_of cases p.0 p.1) (names_of p.1.objects.tuples)

-- the case has several names
abbrev pub has_names : List (List Term) → List ℕ → Bool
has_names names c = nat_lt 1 (length (values_at (Named c) names))
