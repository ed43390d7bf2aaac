-- Texts of cells.
use Rattle.std.specs.Prelude.{ℕ, Bool, ◌&&◌, nat_lt, if◌then◌else◌, List, length, Option, Some, None, chars}
use Rattle.std.specs.List.{list_all}
use Rattle.vocabulary.specs.Texts.{is_xml_char}

-- one character of XML 1.0 or more
abbrev pub is_cell_text : List ℕ → Bool
is_cell_text text = nat_lt 0 (length text) && list_all is_xml_char (chars text)

-- the canonical text of a text is itself
abbrev pub text_canonical : List ℕ → Option (List ℕ)
text_canonical text = if is_cell_text text then Some text else None
