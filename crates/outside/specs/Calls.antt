-- Calls that fail at chosen numbers.
use Rattle.std.specs.Prelude.{ℕ, List}

-- how many calls were made, the numbers of those that fail, and how many failed
pub record CountedCalls : Type 0 where
  pub made : ℕ
  pub failing : List ℕ
  pub faults : ℕ
