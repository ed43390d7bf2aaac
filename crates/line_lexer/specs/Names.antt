-- Names of one kind of declaration.
use Rattle.std.specs.Prelude.{◌≡◌, ℕ, true, List, Some, slice_get}
use Rattle.line_lexer.specs.Shapes.{is_word}

-- each name is a word, and no two are one text
pub record AreNames (names : List (List ℕ)) : Type 0 where
  pub words : (i : ℕ) (name : List ℕ) → slice_get names i ≡ Some name → is_word name ≡ true
  pub differ : (i j : ℕ) (name : List ℕ) → slice_get names i ≡ Some name → slice_get names j ≡ Some name → i ≡ j
