-- An event of a name, changed.
use Rattle.std.specs.Prelude.{ℕ, List, [], ◌∷◌, ◌++◌, Some, if◌then◌else◌}
use Rattle.std.specs.Str.{bytes_eq}
use Rattle.queries.specs.declared.query.Query.{Query}
use Rattle.annotation_language.specs.declared.notes.KeyNote.{KeyNote}
use Rattle.annotation_language.specs.declared.notes.EventNote.{EventNote}

-- the event, with these cases if it has this name
abbrev pub with_cases : List ℕ → Query → EventNote → EventNote
with_cases e query event = if bytes_eq event.name e then record event { cases = Some query } else event

-- the event, with one key more if it has this name
abbrev pub with_key : List ℕ → KeyNote → EventNote → EventNote
with_key e key event = if bytes_eq event.name e then record event { keys = event.keys ++ key ∷ [] } else event
