-- Cells and their canonical texts.
use Rattle.std.specs.Prelude.{◌≡◌, ℕ, ℤ, List, Option, Some, None, Bool, true, false}
use Rattle.std.specs.Str.{IsUtf8}
use Rattle.vocabulary.specs.declared.ids.ValueKind.{ValueKind}
use Rattle.vocabulary.specs.declared.ids.ValueKind.TheVariants.{Text, Int, Bool as BoolKind, Time}
use Rattle.civil_values.specs.Texts.{is_cell_text, text_canonical}
use Rattle.civil_values.specs.Numbers.{int_canonical}
use Rattle.civil_values.specs.Truth.{bool_canonical}
use Rattle.civil_values.specs.TimeReader.{time_canonical}

-- null, or a canonical text
abbrev pub Cell : Type 0
Cell = Option (List ℕ)

-- one cell for each column
abbrev pub Row : Type 0
Row = List Cell

-- the canonical text of a text in UTF-8 as a value of a kind, where times without an offset have the given one
abbrev pub canonical : ℤ → ValueKind → List ℕ → Option (List ℕ)
canonical offset Text text = text_canonical text
canonical offset Int text = int_canonical text
canonical offset BoolKind text = bool_canonical text
canonical offset Time text = time_canonical offset text

abbrev pub is_null : Cell → Bool
is_null None = true
is_null (Some text) = false

-- a cell is null, or one character of XML 1.0 or more, in UTF-8
abbrev pub HasText : Cell → Type 0
HasText None = Unit {0}
HasText (Some text) = IsUtf8 text × (is_cell_text text ≡ true)
