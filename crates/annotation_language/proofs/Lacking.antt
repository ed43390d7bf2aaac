-- What the first event that lacks something lacks.
use Rattle.std.proofs.Common.{◌≡◌, ◌∙◌, sym, ℕ, ◌+◌, ◌<◌, List, Option, Some, None, option_map, length, drop, get_or, arith}
use Rattle.std.proofs.lemmas.List.{at_drop_more}
use Rattle.line_lexer.specs.declared.fault.LineFault.{LineFault}
use Rattle.annotation_language.specs.declared.notes.EventNote.{EventNote}
use Rattle.annotation_language.specs.Complete.{Lack, first_or, event_lack, events_lack}
use Rattle.annotation_language.specs.Reading.{fault_of}

first : (o other : Option Lack) (fault : ℕ × LineFault) → Some fault ≡ option_map fault_of o → Some fault ≡ option_map fault_of (first_or o other)
first None other fault e = grind arith
first (Some lack) other fault e = e

pub lack_here : (events : List EventNote) (i : ℕ) (d : EventNote) (fault : ℕ × LineFault) → i < length events → Some fault ≡ option_map fault_of (event_lack (get_or events i d)) → option_map fault_of (events_lack (drop i events)) ≡ option_map fault_of (events_lack events) → Some fault ≡ option_map fault_of (events_lack events)
lack_here events i d fault lt e same =
    first (event_lack (get_or events i d)) (events_lack (drop (i + 1) events)) fault e
    ∙ sym (at_drop_more (λ rest. option_map fault_of (events_lack rest)) events i d lt) ∙ same
