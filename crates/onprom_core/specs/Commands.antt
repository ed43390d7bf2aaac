-- The table of commands: what words name.
use Rattle.std.specs.Prelude.{ℕ, ◌+◌, ◌*◌, ◌-◌, ◌&&◌, nat_lt, nat_le, Bool, false, List, [], ◌∷◌, Option, Some, None, if◌then◌else◌, is_some, codes, decimal}
use Rattle.std.specs.List.{list_any}
use Rattle.std.specs.Str.{bytes_eq}

-- a command with its file names, the names of its queries and the number of an answer, or the number of documents and the name of a made file
pub data Command : Type 0 where
  Extract : List ℕ → Command
  Check : List ℕ → Command
  Verify : List ℕ → List ℕ → Command
  Answer : List ℕ → List ℕ → Command
  Rewrite : List ℕ → List ℕ → Command
  Make : ℕ → List ℕ → Command
  Why : List ℕ → List ℕ → ℕ → Command
  Lint : List ℕ → Command
  Contained : List ℕ → List ℕ → List ℕ → Command

-- the number that a text writes, where it is one in decimal
abbrev pub value_behind : ℕ → List ℕ → ℕ
value_behind n [] = n
value_behind n (digit ∷ digits) = value_behind (n * 10 + (digit - 48)) digits

-- the text is the decimal form, without a leading zero, of a number from 1 to the most
abbrev pub is_count : ℕ → List ℕ → Bool
is_count most text = bytes_eq (decimal (value_behind 0 text)) text && nat_lt 0 (value_behind 0 text) && nat_le (value_behind 0 text) most

-- the files of a made project, and what is said of its log
abbrev pub is_made : List ℕ → Bool
is_made name = list_any (bytes_eq name) (codes "project.txt" ∷ codes "doc.csv" ∷ codes "step.csv" ∷ codes "summary" ∷ [])

abbrev pub one_file : List ℕ → List ℕ → Option Command
one_file word p =
    if bytes_eq word (codes "extract") then Some (Extract p)
    else (if bytes_eq word (codes "check") then Some (Check p)
    else (if bytes_eq word (codes "lint") then Some (Lint p) else None))

abbrev pub file_and_name : List ℕ → List ℕ → List ℕ → Option Command
file_and_name word p q =
    if bytes_eq word (codes "verify") then Some (Verify p q)
    else (if bytes_eq word (codes "answer") then Some (Answer p q)
    else (if bytes_eq word (codes "rewrite") then Some (Rewrite p q)
    else (if bytes_eq word (codes "make") && is_count 100_000 p && is_made q then Some (Make (value_behind 0 p) q) else None)))

abbrev pub file_and_names : List ℕ → List ℕ → List ℕ → List ℕ → Option Command
file_and_names word p q r =
    if bytes_eq word (codes "contained") then Some (Contained p q r)
    else (if bytes_eq word (codes "why") && is_count 4_294_967_295 r then Some (Why p q (value_behind 0 r)) else None)

-- the command that words name, if they match a line of the table
abbrev pub command_of : List (List ℕ) → Option Command
command_of (word ∷ p ∷ []) = one_file word p
command_of (word ∷ p ∷ q ∷ []) = file_and_name word p q
command_of (word ∷ p ∷ q ∷ r ∷ []) = file_and_names word p q r
command_of words = None

-- the words are `extract` and one more
abbrev pub is_extract : List (List ℕ) → Bool
is_extract (word ∷ p ∷ []) = bytes_eq word (codes "extract")
is_extract words = false

-- the words are `check` and one more
abbrev pub is_check : List (List ℕ) → Bool
is_check (word ∷ p ∷ []) = bytes_eq word (codes "check")
is_check words = false

-- the words are `verify` and two more
abbrev pub is_verify : List (List ℕ) → Bool
is_verify (word ∷ p ∷ d ∷ []) = bytes_eq word (codes "verify")
is_verify words = false

-- the words are `answer` and two more
abbrev pub is_answer : List (List ℕ) → Bool
is_answer (word ∷ p ∷ q ∷ []) = bytes_eq word (codes "answer")
is_answer words = false

-- the words are `rewrite` and two more
abbrev pub is_rewrite : List (List ℕ) → Bool
is_rewrite (word ∷ p ∷ q ∷ []) = bytes_eq word (codes "rewrite")
is_rewrite words = false

-- the words are `lint` and one more
abbrev pub is_lint : List (List ℕ) → Bool
is_lint (word ∷ p ∷ []) = bytes_eq word (codes "lint")
is_lint words = false

-- the words are `contained` and three more
abbrev pub is_contained : List (List ℕ) → Bool
is_contained (word ∷ p ∷ q ∷ r ∷ []) = bytes_eq word (codes "contained")
is_contained words = false

-- the number up to the most that a text names, where it names one
abbrev pub count_named : ℕ → List ℕ → Option ℕ
count_named most text = if is_count most text then Some (value_behind 0 text) else None

-- the number of an answer, where the words are `why`, two more and such a number
abbrev pub number_named : List (List ℕ) → Option ℕ
number_named (word ∷ p ∷ q ∷ n ∷ []) = if bytes_eq word (codes "why") then count_named 4_294_967_295 n else None
number_named words = None

-- the number of documents, where the words are `make`, such a number and a made file
abbrev pub docs_named : List (List ℕ) → Option ℕ
docs_named (word ∷ n ∷ f ∷ []) = if bytes_eq word (codes "make") && is_made f then count_named 100_000 n else None
docs_named words = None

-- the words are those of `make`
abbrev pub is_make : List (List ℕ) → Bool
is_make words = is_some (docs_named words)
