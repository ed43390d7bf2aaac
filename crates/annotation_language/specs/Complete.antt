-- Which annotations a log can be made of.
use Rattle.std.specs.Prelude.{◌≡◌, ℕ, List, [], ◌∷◌, Option, Some, None, is_some, not, Bool, if◌then◌else◌, codes}
use Rattle.std.specs.List.{list_any}
use Rattle.std.specs.Str.{bytes_eq}
use Rattle.annotation_language.specs.declared.notes.EventNote.{EventNote}
use Rattle.annotation_language.specs.declared.notes.Annotations.{Annotations}

-- what annotations lack: a case query, or of the event of a line its cases, its time or its activity
pub data Lack : Type 0 where
  Case : Lack
  Cases : ℕ → Lack
  Time : ℕ → Lack
  Activity : ℕ → Lack

abbrev pub has_key : List ℕ → EventNote → Bool
has_key key event = list_any (λ k. bytes_eq k.key key) event.keys

-- what an event lacks first
abbrev pub event_lack : EventNote → Option Lack
event_lack event =
    if not (is_some event.cases) then Some (Cases event.line)
    else (if not (has_key (codes "time:timestamp") event) then Some (Time event.line)
    else (if not (has_key (codes "concept:name") event) then Some (Activity event.line) else None))

abbrev pub first_or : Option Lack → Option Lack → Option Lack
first_or None other = other
first_or (Some lack) other = Some lack

-- what the first event that lacks something lacks first
abbrev pub events_lack : List EventNote → Option Lack
events_lack [] = None
events_lack (event ∷ events) = first_or (event_lack event) (events_lack events)

-- the first lack of annotations
abbrev pub lack_of : Annotations → Option Lack
lack_of notes = if not (is_some notes.case_query) then Some Case else events_lack notes.events

-- nothing is lacking
abbrev pub IsComplete : Annotations → Type 0
IsComplete notes = lack_of notes ≡ None
