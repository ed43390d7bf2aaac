-- The events of a log with their cases, computed from answers; and their rows.
use Rattle.std.specs.Prelude.{◌+◌, ℕ, Bool, List, [], ◌∷◌, ◌++◌, Option, Some, None, if◌then◌else◌, codes, filter, map, slice_get}
use Rattle.std.specs.List.{flat_map}
use Rattle.std.specs.declared.cmp.Ordering.{Ordering}
use Rattle.std.specs.Ordering.{is_eq, ordering_then}
use Rattle.vocabulary.specs.declared.ids.ValueKind.TheVariants.{Text}
use Rattle.vocabulary.specs.declared.term.Term.{Term, Named, Value}
use Rattle.vocabulary.specs.Texts.{text_cmp}
use Rattle.xes_writer.specs.declared.log.EventRow.{EventRow}
use Rattle.xes_writer.specs.declared.log.TraceRow.{TraceRow}
use Rattle.xes_writer.specs.declared.log.Log.{Log}
use Rattle.annotation_language.specs.declared.notes.EventNote.{EventNote}
use Rattle.annotation_language.specs.declared.notes.Annotations.{Annotations}
use Rattle.log_assembly.specs.declared.asked.AskedEvent.{AskedEvent}
use Rattle.log_assembly.specs.declared.asked.Asked.{Asked}
use Rattle.log_assembly.specs.declared.attributes.Attribute.{Attribute}
use Rattle.log_assembly.specs.Found.{homes_at, keys_at, names_of, values_at}
use Rattle.log_assembly.specs.Judged.{entries_of, is_kept, times_of}
use Rattle.log_assembly.specs.TheLog.{Moment, entry_of, moment_cmp}

-- an event of the log in one of its cases: when, which object, and the place of its annotation
pub record Occurrence : Type 0 where
  pub case : List ℕ
  pub instant : List ℕ
  pub object : List ℕ
  pub place : ℕ

abbrev pub moment_of : Occurrence → Moment
moment_of x = record { instant = x.instant; object = x.object; place = x.place }

-- by case, then as moments
abbrev pub occurrence_cmp : Occurrence → Occurrence → Ordering
occurrence_cmp a b = ordering_then (text_cmp a.case b.case) (moment_cmp (moment_of a) (moment_of b))

abbrev pub occurrence : List ℕ → List ℕ → ℕ → List ℕ → Occurrence
occurrence c o n t = record { case = c; instant = t; object = o; place = n }

-- at every time in every case
abbrev pub occurrences_in : List ℕ → ℕ → List (List ℕ) → List (List ℕ) → List Occurrence
occurrences_in o n times cases = flat_map (λ c. map (occurrence c o n) times) cases

abbrev pub occurrences_if : Bool → List ℕ → ℕ → List Attribute → List (List ℕ) → List Occurrence
occurrences_if kept o n attributes cases = if kept then occurrences_in o n (times_of attributes) cases else []

-- where an object is kept, its event in each of its cases
abbrev pub object_occurrences : List (List Term) → EventNote → AskedEvent → ℕ → List ℕ → List Occurrence
object_occurrences cases event answers n o =
    occurrences_if (is_kept (keys_at event answers o) (homes_at cases answers o)) o n (keys_at event answers o) (homes_at cases answers o)

abbrev pub event_occurrences : List (List Term) → ℕ → EventNote × AskedEvent → List Occurrence
event_occurrences cases n p = flat_map (object_occurrences cases p.0 p.1 n) (names_of p.1.objects.tuples)

-- of the annotations from a place on
abbrev pub occurrences_from : List (List Term) → ℕ → List (EventNote × AskedEvent) → List Occurrence
occurrences_from cases n [] = []
occurrences_from cases n (p ∷ ps) = event_occurrences cases n p ++ occurrences_from cases (n + 1) ps

-- those of a case
abbrev pub at_case : List ℕ → List Occurrence → List Occurrence
at_case c xs = filter (λ x. is_eq (text_cmp x.case c)) xs

-- the attributes of an event
abbrev pub row_by : List ℕ → Option EventNote → Option AskedEvent → EventRow (List ℕ)
row_by o None answers = record { entries = [] }
row_by o (Some event) None = record { entries = [] }
row_by o (Some event) (Some answers) = record { entries = entry_of (codes "object") (Named o) ∷ entries_of (keys_at event answers o) }

abbrev pub row_of : List EventNote → List AskedEvent → Occurrence → EventRow (List ℕ)
row_of events asked x = row_by x.object (slice_get events x.place) (slice_get asked x.place)

-- the one name, else a text of the IRI
abbrev pub title_of : List ℕ → List Term → Term
title_of c [] = Value Text c
title_of c (v ∷ []) = v
title_of c (v ∷ w ∷ vs) = Value Text c

abbrev pub trace_of : Annotations → Asked → List Occurrence → List ℕ → TraceRow (List ℕ)
trace_of notes asked xs c = record {
  entries = entry_of (codes "object") (Named c) ∷ entry_of (codes "concept:name") (title_of c (values_at (Named c) asked.names.tuples)) ∷ [];
  events = map (row_of notes.events asked.events) (at_case c xs);
}

abbrev pub log_of : Annotations → Asked → List Occurrence → Log (List ℕ)
log_of notes asked xs = record { traces = map (trace_of notes asked xs) (names_of asked.cases.tuples) }
