-- The shelves and sinks in memory, as their contracts see them.
use Rattle.std.specs.Prelude.{ℕ, Bool, List}
use Rattle.outside.specs.Opened.{Opened}
use Rattle.outside.specs.Calls.{CountedCalls}

-- a shelf whose calls fail at chosen numbers
pub record FailingShelf : Type 0 where
  pub opened : Opened
  pub failed : Bool
  pub calls : CountedCalls
  pub absences : ℕ

-- a shelf that does not fail
pub record SteadyShelf : Type 0 where
  pub opened : Opened
  pub absences : ℕ

-- a sink that takes at most so many bytes of a piece, and whose calls fail at chosen numbers
pub record FailingSink : Type 0 where
  pub written : List ℕ
  pub most : ℕ
  pub failed : Bool
  pub calls : CountedCalls

-- a sink that holds so many bytes and no more
pub record RoomySink : Type 0 where
  pub written : List ℕ
  pub room : ℕ
  pub failed : Bool
  pub faults : ℕ
