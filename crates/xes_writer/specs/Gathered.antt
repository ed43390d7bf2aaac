-- What a sink has taken of a text whose last bytes wait to be written.
use Rattle.std.specs.Prelude.{◌≡◌, ℕ, Bool, List, ◌++◌, Option, Result, Err, OnOk, OnErr, IsTrue}
use Rattle.std.specs.Io.KnownBytes.{Appends}
use Rattle.outside.specs.declared.sink.Stop.{Stop}
use Rattle.outside.specs.declared.sink.Stop.TheVariants as stop
use Rattle.outside.specs.Counts.{CountsWrite}
use Rattle.outside.specs.Written.{AppendsFront}

-- the bytes that wait, and whether all writing before was done
pub record Waiting : Type 0 where
  pub bytes : List ℕ
  pub done : Result (Unit {0}) Stop

module _ {S : Type 0} (written : S → Option (List ℕ)) (wants failed : S → Bool) (faults : S → ℕ) where
  -- since the start this text was put: all of it but what waits is written, or a front of it, where writing stopped
  pub record Gathered (start now : S) (waiting : Waiting) (text : List ℕ) : Type 0 where
    pub ok : OnOk waiting.done ((front : List ℕ) × Appends (written start) (written now) front × (front ++ waiting.bytes ≡ text))
    pub err : OnErr waiting.done (AppendsFront (written start) (written now) text)
    pub memory : waiting.done ≡ Err stop.NoMemory → IsTrue (wants start)
    pub last : waiting.done ≡ Err stop.Failed → IsTrue (failed now)
    pub wants_same : wants now ≡ wants start
    pub counts : CountsWrite (faults start) (faults now) waiting.done

  -- whatever was put before, the text is put behind it
  pub record Puts (old : S) (waiting : Waiting) (new : S) (waiting' : Waiting) (text : List ℕ) : Type 0 where
    pub behind : (start : S) (before : List ℕ) → Gathered start old waiting before → Gathered start new waiting' (before ++ text)
