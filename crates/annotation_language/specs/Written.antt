-- Annotation lines as they are written.
use Rattle.std.specs.Prelude.{ℕ, List}
use Rattle.vocabulary.specs.declared.ids.ValueKind.{ValueKind}
use Rattle.annotation_language.specs.declared.notes.Rule.{Rule}

-- ARG: `_`, a variable, `"TEXT"` or `iri "TEMPLATE"`
pub data Argument : Type 0 where
  Blank : Argument
  Variable : List ℕ → Argument
  Constant : List ℕ → Argument
  Iri : List ℕ → Argument

-- an atom of a query: `A(ARG)` or `P(ARG, ARG)`
pub data Atom : Type 0 where
  One : List ℕ → Argument → Atom
  Two : List ℕ → Argument → Argument → Atom

-- head variables, and `where ATOMS`
pub record Asked : Type 0 where
  pub head : List (List ℕ)
  pub atoms : List Atom

-- where the values of a key come from: a query, or `is KIND "TEXT"`
pub data Source : Type 0 where
  Answers : Asked → Source
  Is : ValueKind → List ℕ → Source

-- `case v ..`, `casename (v, w) ..`, `event E v ..`, `cases E (v, w) ..`, `set E "KEY" RULE ..`, `query Q (v, w) ..`
pub data Line : Type 0 where
  Case : Asked → Line
  CaseName : Asked → Line
  Event : List ℕ → Asked → Line
  Cases : List ℕ → Asked → Line
  Key : List ℕ → List ℕ → Rule → Source → Line
  Query : List ℕ → Asked → Line
