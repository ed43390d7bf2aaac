-- Truth values of cells.
use Rattle.std.specs.Prelude.{Bool, true, false, if◌then◌else◌, List, [], ◌∷◌, ℕ, Option, Some, None, option_map, codes}
use Rattle.std.specs.List.{list_any}
use Rattle.std.specs.Str.{str_eq_ignore_ascii_case}

-- the texts that say yes, and no
abbrev pub true_words : List (List ℕ)
true_words = codes "true" ∷ codes "t" ∷ codes "yes" ∷ codes "1" ∷ []

abbrev pub false_words : List (List ℕ)
false_words = codes "false" ∷ codes "f" ∷ codes "no" ∷ codes "0" ∷ []

-- the text is one of these words, in any ASCII case
abbrev pub is_among : List (List ℕ) → List ℕ → Bool
is_among words text = list_any (str_eq_ignore_ascii_case text) words

-- the truth value that a text names
abbrev pub bool_value : List ℕ → Option Bool
bool_value text = if is_among true_words text then Some true else (if is_among false_words text then Some false else None)

-- `true` or `false`
abbrev pub bool_text : Bool → List ℕ
bool_text b = if b then codes "true" else codes "false"

-- the canonical text of a truth value's text
abbrev pub bool_canonical : List ℕ → Option (List ℕ)
bool_canonical text = option_map bool_text (bool_value text)
