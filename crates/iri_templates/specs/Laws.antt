-- The laws of reading, as the functions of `laws` state them.
use Rattle.std.specs.Prelude.{◌≡◌, ◌≢◌, ◌↔◌, ℕ, List, Ok, Err}
use Rattle.iri_templates.specs.declared.fault.TemplateFault.TheVariants.{NoMemory}
use Rattle.iri_templates.specs.Templates.{IsTemplate, Segments, spelling, template_of}

-- a text is read as segments exactly where they are a template, and the text is how it is written
abbrev pub ReadingIsSpelling : Type 0
ReadingIsSpelling = (text : List ℕ) (t : Segments) → (template_of text ≡ Ok t) ↔ (IsTemplate t × (spelling t ≡ text))

-- no text is refused for want of memory
abbrev pub MemoryIsNoFault : Type 0
MemoryIsNoFault = (text : List ℕ) → template_of text ≢ Err NoMemory
