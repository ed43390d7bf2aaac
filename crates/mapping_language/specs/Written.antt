-- Source lines and mapping lines as they are written.
use Rattle.std.specs.Prelude.{ℕ, List, Option}
use Rattle.vocabulary.specs.declared.ids.ValueKind.{ValueKind}

-- a source line: `table T "FILE"` with an offset's text or without, `column T C KIND` with a header text or without, `key T (C, C)`
pub data SourceLine : Type 0 where
  Table : List ℕ → List ℕ → Option (List ℕ) → SourceLine
  Column : List ℕ → List ℕ → ValueKind → Option (List ℕ) → SourceLine
  Key : List ℕ → List (List ℕ) → SourceLine

-- `a.c`: an alias, and a column of its table
pub record Cell : Type 0 where
  pub alias : List ℕ
  pub column : List ℕ

-- what a cell is compared with: another cell, or a text
pub data Other : Type 0 where
  OfCell : Cell → Other
  OfText : List ℕ → Other

-- COND: `a.c = b.d`, `a.c = "TEXT"`, the same two with `<>`, `a.c is null` and `a.c is not null`
pub data Condition : Type 0 where
  Same : Cell → Other → Condition
  Differs : Cell → Other → Condition
  Null : Cell → Condition
  NotNull : Cell → Condition

-- TERM: `iri "TEMPLATE"`, `a.c` or `"TEXT"`
pub data Term : Type 0 where
  Iri : List ℕ → Term
  Column : Cell → Term
  Constant : List ℕ → Term

-- an atom of a mapping: `A(TERM)` or `P(TERM, TERM)`
pub data Target : Type 0 where
  One : List ℕ → Term → Target
  Two : List ℕ → Term → Term → Target

-- `T a`: a table under an alias
pub record Source : Type 0 where
  pub table : List ℕ
  pub alias : List ℕ

-- `map N from T a, T b where COND and COND then ATOMS`
pub record MapLine : Type 0 where
  pub name : List ℕ
  pub sources : List Source
  pub conditions : List Condition
  pub targets : List Target
