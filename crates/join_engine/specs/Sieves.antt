-- Conditions of one table alone, and the rows that they leave.
use Rattle.std.specs.Prelude.{◌≡◌, ℕ, ◌==◌, Bool, ◌&&◌, not, List, [], ◌∷◌, ◌++◌, length, filter}
use Rattle.std.specs.List.{list_any, range_with_len}
use Rattle.source_tables.specs.Tables.{Loaded}
use Rattle.mapping_facts.specs.declared.query.Condition.{Condition}
use Rattle.mapping_facts.specs.declared.query.Condition.TheVariants.{Equal, EqualText, Differ, DifferText, IsNull, NotNull}
use Rattle.mapping_facts.specs.declared.query.SourceQuery.{SourceQuery}
use Rattle.mapping_facts.specs.Tuples.{cell_of, condition_holds}

-- a condition speaks of the table at this place alone
abbrev pub is_alone : ℕ → Condition → Bool
is_alone d (Equal p q) = (p.table == d) && (q.table == d)
is_alone d (EqualText p text) = p.table == d
is_alone d (Differ p q) = (p.table == d) && (q.table == d)
is_alone d (DifferText p text) = p.table == d
is_alone d (IsNull p) = p.table == d
is_alone d (NotNull p) = p.table == d

-- a condition of that table alone fails over these rows
abbrev pub fails_alone : List Loaded → SourceQuery → ℕ → List ℕ → Bool
fails_alone tables q d rows = list_any (λ c. is_alone d c && not (condition_holds (cell_of tables q.tables rows) c)) q.conditions

-- of so many rows those that the table's own conditions leave, behind any rows of the tables before it
abbrev pub IsSieved : List Loaded → SourceQuery → ℕ → ℕ → List ℕ → Type 0
IsSieved tables q d count rows = (front : List ℕ) × (length front ≡ d) × (rows ≡ filter (λ i. not (fails_alone tables q d (front ++ (i ∷ [])))) (range_with_len 0 count))
