-- Which rows an index lists for a text.
use Rattle.std.specs.Prelude.{ℕ, Bool, false, List, [], length, filter, get_or, Option, Some, None}
use Rattle.std.specs.List.{range_with_len}
use Rattle.std.specs.Option.{option_map_or}
use Rattle.std.specs.HashMap.{get_by_text}
use Rattle.std.specs.Str.{bytes_eq}
use Rattle.vocabulary.specs.declared.ids.VarId.{VarId}
use Rattle.vocabulary.specs.declared.term.Term.{Term}
use Rattle.vocabulary.specs.Terms.{text_of}
use Rattle.relation_join.specs.declared.index.Index.{Index}
use Rattle.relation_join.specs.Joins.{value_in}

unfoldable pub listed : Index → List ℕ → List ℕ
listed index text = option_map_or (λ g. g.items) (get_by_text index.rows text) []

-- a term has this text
abbrev pub has_text : List ℕ → Option Term → Bool
has_text text None = false
has_text text (Some t) = bytes_eq text (text_of t)

-- the row of this number has this text at the variable
abbrev pub has_key : List VarId → List (List Term) → VarId → List ℕ → ℕ → Bool
has_key vars rows v text n = has_text text (value_in vars (get_or rows n []) v)

-- the numbers of these rows, in their order
abbrev pub rows_with : List VarId → List (List Term) → VarId → List ℕ → List ℕ
rows_with vars rows v text = filter (has_key vars rows v text) (range_with_len 0 (length rows))
