-- Steps of a run, each of which begins files and then goes on with a value or stops it.
use Rattle.std.specs.Prelude.{◌≡◌, ℕ, List, [], ◌++◌, Result, Ok, Err, Contains}
use Rattle.onprom_core.specs.declared.halt.Stopped.{Stopped}
use Rattle.onprom_core.specs.declared.halt.Halt.{Halt}
use Rattle.onprom_core.specs.declared.halt.Halt.TheVariants as halt

-- the files that are begun, in order, and what comes of it
pub record Step (A : Type 0) : Type 0 where
  pub begun : List (List ℕ)
  pub end : Result A Stopped

abbrev pub goes : {A : Type 0} → A → Step A
goes x = record { begun = []; end = Ok x }

abbrev pub stops : {A : Type 0} → Stopped → Step A
stops s = record { begun = []; end = Err s }

abbrev pub bind_end : {A B : Type 0} → List (List ℕ) → Result A Stopped → (A → Step B) → Step B
bind_end begun (Ok x) f = record { begun = begun ++ (f x).begun; end = (f x).end }
bind_end begun (Err e) f = record { begun = begun; end = Err e }

infixl 10 ◌>>=◌
abbrev pub ◌>>=◌ : {A B : Type 0} → Step A → (A → Step B) → Step B
m >>= f = bind_end m.begun m.end f

-- what stops the code is what stops the step; a read fault names a file that the step begins
abbrev pub Halts : {Y : Type 0} → Halt → Step Y → Type 0
Halts (halt.Stopped stopped) step = step.end ≡ Err stopped
Halts (halt.ReadFault name) step = Contains step.begun name
Halts halt.NoMemory step = Unit {0}

-- the code, its value seen by view, does what the step does
abbrev pub Gives : {X Y : Type 0} → (X → Y) → Result X Halt → Step Y → Type 0
Gives view (Ok x) step = step.end ≡ Ok (view x)
Gives view (Err e) step = Halts e step
