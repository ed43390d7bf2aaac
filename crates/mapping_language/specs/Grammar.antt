-- The grammar of source lines and mapping lines, over the tokens of a line.
use Rattle.std.specs.Prelude.{ℕ, List, [], Option, Some, None, if◌then◌else◌, codes}
use Rattle.line_lexer.specs.Tokens.{Seen}
use Rattle.line_lexer.specs.Grammar.{◌>>=◌, either, expect, any_quoted, name, ended}
use Rattle.line_lexer.specs.Separated.{separated}
use Rattle.uml_model.specs.Lines.{kind}
use Rattle.mapping_language.specs.Written.{SourceLine, Table, Column, Key, Cell, Other, OfCell, OfText, Condition, Same, Differs, Null, NotNull, Term, Iri, Column as ColumnTerm, Constant, Target, One, Two, Source, MapLine}

-- nothing more, or a word with a quoted text, and nothing more
abbrev pub with_text : List ℕ → List Seen → Option (Option (List ℕ))
with_text word tokens = either (expect word tokens)
    (λ rest. any_quoted rest >>= (λ text. if ended text.1 then Some (Some text.0) else None))
    (if ended tokens then Some None else None)

-- behind `table` the name, the file, and `offset "OFFSET"` or nothing
unfoldable pub table_line : List Seen → Option SourceLine
table_line tokens = do
  table ← name tokens
  file ← any_quoted table.1
  offset ← with_text (codes "offset") file.1
  Some (Table table.0 file.0 offset)

-- behind `column` the table, the name, the kind, and `header "TEXT"` or nothing
unfoldable pub column_line : List Seen → Option SourceLine
column_line tokens = do
  table ← name tokens
  column ← name table.1
  sort ← kind column.1
  header ← with_text (codes "header") sort.1
  Some (Column table.0 column.0 sort.0 header)

-- behind `key` the table, and columns in parentheses
unfoldable pub key_line : List Seen → Option SourceLine
key_line tokens = do
  table ← name tokens
  rest ← expect (codes "(") table.1
  columns ← separated (codes ",") name rest
  rest ← expect (codes ")") columns.1
  if ended rest then Some (Key table.0 columns.0) else None

-- the source line that the tokens are, by their first word; None where they are none
unfoldable pub source_line : List Seen → Option SourceLine
source_line tokens =
    either (expect (codes "table") tokens) table_line
    (either (expect (codes "column") tokens) column_line
    (expect (codes "key") tokens >>= key_line))

-- `a.c`
abbrev pub cell : List Seen → Option (Cell × List Seen)
cell tokens = do
  alias ← name tokens
  rest ← expect (codes ".") alias.1
  column ← name rest
  Some (record { alias = alias.0; column = column.0 }, column.1)

-- a quoted text or a cell
abbrev pub other : List Seen → Option (Other × List Seen)
other tokens = either (any_quoted tokens) (λ text. Some (OfText text.0, text.1)) (cell tokens >>= (λ c. Some (OfCell c.0, c.1)))

-- behind `a.c is`: `null` or `not null`
abbrev pub nullness : Cell → List Seen → Option (Condition × List Seen)
nullness c tokens = either (expect (codes "not") tokens)
    (λ rest. expect (codes "null") rest >>= (λ rest. Some (NotNull c, rest)))
    (expect (codes "null") tokens >>= (λ rest. Some (Null c, rest)))

-- COND
unfoldable pub condition : List Seen → Option (Condition × List Seen)
condition tokens = cell tokens >>= (λ c.
    either (expect (codes "=") c.1) (λ rest. other rest >>= (λ o. Some (Same c.0 o.0, o.1)))
    (either (expect (codes "<>") c.1) (λ rest. other rest >>= (λ o. Some (Differs c.0 o.0, o.1)))
    (expect (codes "is") c.1 >>= (λ rest. nullness c.0 rest))))

-- TERM
abbrev pub term : List Seen → Option (Term × List Seen)
term tokens =
    either (any_quoted tokens) (λ text. Some (Constant text.0, text.1))
    (either (expect (codes "iri") tokens) (λ rest. any_quoted rest >>= (λ text. Some (Iri text.0, text.1)))
    (cell tokens >>= (λ c. Some (ColumnTerm c.0, c.1))))

-- `A(TERM)` or `P(TERM, TERM)`
unfoldable pub target : List Seen → Option (Target × List Seen)
target tokens = do
  p ← name tokens
  rest ← expect (codes "(") p.1
  a ← term rest
  either (expect (codes ",") a.1)
      (λ rest. term rest >>= (λ b. expect (codes ")") b.1 >>= (λ rest. Some (Two p.0 a.0 b.0, rest))))
      (expect (codes ")") a.1 >>= (λ rest. Some (One p.0 a.0, rest)))

-- `T a`
abbrev pub source : List Seen → Option (Source × List Seen)
source tokens = do
  table ← name tokens
  alias ← name table.1
  Some (record { table = table.0; alias = alias.0 }, alias.1)

-- `where COND and COND`, or nothing
abbrev pub conditions : List Seen → Option (List Condition × List Seen)
conditions tokens = either (expect (codes "where") tokens) (λ rest. separated (codes "and") condition rest) (Some ([], tokens))

-- `map N from`
abbrev pub map_name : List Seen → Option (List ℕ × List Seen)
map_name tokens = do
  rest ← expect (codes "map") tokens
  n ← name rest
  rest ← expect (codes "from") n.1
  Some (n.0, rest)

-- `map N from T a, T b where COND and COND then ATOMS`; None where the tokens are no such line
unfoldable pub map_line : List Seen → Option MapLine
map_line tokens = do
  n ← map_name tokens
  sources ← separated (codes ",") source n.1
  conds ← conditions sources.1
  rest ← expect (codes "then") conds.1
  targets ← separated (codes ",") target rest
  if ended targets.1 then Some (record { name = n.0; sources = sources.0; conditions = conds.0; targets = targets.0 }) else None
