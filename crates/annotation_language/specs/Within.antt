-- Annotations whose queries are over so many classes and links.
use Rattle.std.specs.Prelude.{ℕ}
use Rattle.queries.specs.Within.{IsQueryWithin}
use Rattle.annotation_language.specs.Askable.{OfEach}
use Rattle.annotation_language.specs.declared.notes.Annotations.{Annotations}

-- of each query of the annotations
abbrev pub AreAskedWithin : ℕ → ℕ → Annotations → Type 0
AreAskedWithin classes links = OfEach (IsQueryWithin classes links)
