-- What small annotations lack.
use Rattle.std.proofs.Common.{◌≡◌, refl, ℕ, List, [], ◌∷◌, Option, Some, None, codes, map}
use Rattle.vocabulary.specs.declared.ids.ValueKind.TheVariants.{Text}
use Rattle.queries.specs.declared.query.Query.{Query}
use Rattle.annotation_language.specs.declared.notes.Rule.TheVariants.{Mandatory}
use Rattle.annotation_language.specs.declared.notes.KeySource.TheVariants.{Fixed}
use Rattle.annotation_language.specs.declared.notes.KeyNote.{KeyNote}
use Rattle.annotation_language.specs.declared.notes.EventNote.{EventNote}
use Rattle.annotation_language.specs.declared.notes.Annotations.{Annotations}
use Rattle.annotation_language.specs.Complete.{Case, Cases, Time, Activity, lack_of}

abbrev query : Query
query = record { head = []; atoms = [] }

abbrev key : List ℕ → KeyNote
key name = record { key = name; rule = Mandatory; source = Fixed Text (codes "x") }

abbrev event : ℕ → Option Query → List KeyNote → EventNote
event line cases keys = record { name = codes "e"; line = line; objects = query; cases = cases; keys = keys }

abbrev notes : Option Query → List EventNote → Annotations
notes cases events = record { case_query = cases; case_name = None; events = events; queries = [] }

abbrev whole : EventNote
whole = event 3 (Some query) (key (codes "concept:name") ∷ key (codes "time:timestamp") ∷ [])

-- the case query comes first, then event by event its cases, its time and its activity
lacks : map lack_of (
    notes None (event 4 None [] ∷ []) ∷
    notes (Some query) (whole ∷ event 4 None [] ∷ []) ∷
    notes (Some query) (whole ∷ event 5 (Some query) (key (codes "concept:name") ∷ []) ∷ []) ∷
    notes (Some query) (event 6 (Some query) (key (codes "time:timestamp") ∷ []) ∷ event 7 None [] ∷ []) ∷
    notes (Some query) (whole ∷ []) ∷
    notes (Some query) [] ∷ [])
    ≡ Some Case ∷ Some (Cases 4) ∷ Some (Time 5) ∷ Some (Activity 6) ∷ None ∷ None ∷ []
lacks = refl
