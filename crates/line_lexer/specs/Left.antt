-- What is left of the lines of a text.
use Rattle.std.specs.Prelude.{ℕ, List}

-- how many lines were given, and those that are still to come
pub record Left : Type 0 where
  pub number : ℕ
  pub lines : List (List ℕ)
