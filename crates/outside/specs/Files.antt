-- What a shelf holds, and what reading a file of it gives and leaves.
use Rattle.std.specs.Prelude.{◌≡◌, ◌⊎◌, ℕ, ◌+◌, ◌<◌, ◌≤◌, List, [], ◌∷◌, drop, length, Option, Some, None, Result, Ok, Err, if◌then◌else◌}
use Rattle.std.specs.Str.{bytes_eq}
use Rattle.std.specs.Io.KnownBytes.{prepend_known}
use Rattle.outside.specs.declared.read.FileFault.{FileFault}
use Rattle.outside.specs.declared.read.FileFault.TheVariants.{Absent, Read, TooLong, NoMemory}

-- the bytes of the first file of that name
abbrev pub bytes_of : List (List ℕ × List ℕ) → List ℕ → Option (List ℕ)
bytes_of [] name = None
bytes_of (file ∷ files) name = if bytes_eq file.0 name then Some file.1 else bytes_of files name

-- what was got, and then what is left, is this
abbrev pub IsWhole : List ℕ → Option (List ℕ) → List ℕ → Type 0
IsWhole got left whole = prepend_known got left ≡ Some whole

-- what reading a file of at most this length answers, where the file is known
abbrev pub AnswersFile : Option (List ℕ) → ℕ → Result (List ℕ) FileFault → Type 0
AnswersFile file limit (Ok bytes) = file ≡ Some bytes
AnswersFile file limit (Err Absent) = file ≡ None
AnswersFile file limit (Err TooLong) = (bytes : List ℕ) × (file ≡ Some bytes) × (limit < length bytes)
AnswersFile file limit (Err Read) = Unit {0}
AnswersFile file limit (Err NoMemory) = Unit {0}

-- of a file that is there, this is left after at most so many bytes
abbrev pub TakesAtMost : ℕ → Option (List ℕ) → Option (List ℕ) → Type 0
TakesAtMost most None left = left ≡ None
TakesAtMost most (Some bytes) left = (n : ℕ) × (n ≤ most) × (left ≡ Some (drop n bytes))

-- what reading a file of at most this length leaves of it: with Read perhaps no file is current
abbrev pub LeavesFile : Option (List ℕ) → ℕ → Result (List ℕ) FileFault → Option (List ℕ) → Type 0
LeavesFile file limit (Ok bytes) left = left ≡ Some []
LeavesFile file limit (Err Absent) left = left ≡ None
LeavesFile file limit (Err TooLong) left = TakesAtMost (limit + 1) file left
LeavesFile file limit (Err Read) left = (left ≡ None) ⊎ TakesAtMost (limit + 1) file left
LeavesFile file limit (Err NoMemory) left = TakesAtMost (limit + 1) file left
