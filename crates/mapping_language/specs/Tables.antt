-- The rules of source lines, and the tables that they give.
use Rattle.std.specs.Prelude.{ℕ, ◌+◌, ◌||◌, not, Bool, false, ℤ, pos, List, [], ◌∷◌, ◌++◌, Option, Some, None, Result, if◌then◌else◌, length, map, is_some, position, slice_get, option_and_then, option_map}
use Rattle.std.specs.List.{list_any, filter_map}
use Rattle.std.specs.Str.{bytes_eq}
use Rattle.line_lexer.specs.Tokens.{tokens_of}
use Rattle.line_lexer.specs.declared.fault.LineFault.{LineFault}
use Rattle.line_lexer.specs.declared.fault.LineFault.TheVariants.{Unknown, Double, TypeMismatch}
use Rattle.line_lexer.specs.declared.fault.Counted.{Counted}
use Rattle.line_lexer.specs.declared.fault.Counted.TheVariants.{Tables, Columns, Keys}
use Rattle.civil_values.specs.TimeReader.{offset_of}
use Rattle.vocabulary.specs.declared.ids.ColId.{ColId}
use Rattle.source_tables.specs.declared.decl.ColumnDecl.{ColumnDecl}
use Rattle.source_tables.specs.declared.decl.TableDecl.{TableDecl}
use Rattle.source_tables.specs.Tables.{col}
use Rattle.mapping_language.specs.declared.sources.Sources.{Sources}
use Rattle.mapping_language.specs.Written.{SourceLine, Table, Column, Key}
use Rattle.mapping_language.specs.Grammar.{source_line}
use Rattle.line_lexer.specs.Judging.{first_broken, has_twice, read_by}

-- no tables and no mappings yet
abbrev pub nothing : Sources
nothing = record { tables = []; mappings = [] }

-- the number of a table
abbrev pub table_number : Sources → List ℕ → Option ℕ
table_number s text = position (λ t. bytes_eq t.name text) s.tables

-- the table of a name
abbrev pub table_named : Sources → List ℕ → Option TableDecl
table_named s text = option_and_then (slice_get s.tables) (table_number s text)

-- the number of a column of a table
abbrev pub column_number : TableDecl → List ℕ → Option ℕ
column_number table text = position (λ c. bytes_eq c.name text) table.columns

-- the column of a name in a table
abbrev pub column_named : TableDecl → List ℕ → Option ColumnDecl
column_named table text = option_and_then (slice_get table.columns) (column_number table text)

-- a test of the table of a name; false where there is none
abbrev pub of_table : Option TableDecl → (TableDecl → Bool) → Bool
of_table None test = false
of_table (Some table) test = test table

-- how many the table of a name has of something; none where there is no table
abbrev pub count_in : Option TableDecl → (TableDecl → ℕ) → ℕ
count_in None count = 0
count_in (Some table) count = count table

abbrev pub has_column : TableDecl → List ℕ → Bool
has_column table text = is_some (column_number table text)

-- the header text of a column: its own, else its name
abbrev pub header_or : List ℕ → Option (List ℕ) → List ℕ
header_or column None = column
header_or column (Some text) = text

abbrev pub has_header : TableDecl → List ℕ → Bool
has_header table text = list_any (λ c. bytes_eq c.header text) table.columns

-- the offset of a table: its own, else that of UTC; None where the text is no offset
abbrev pub offset_or : Option (List ℕ) → Option ℤ
offset_or None = Some (pos 0)
offset_or (Some text) = offset_of text

-- a table, or a column of it, that no line before declares
abbrev pub unknown : Sources → SourceLine → Bool
unknown s (Table t file offset) = false
unknown s (Column t c kind header) = not (is_some (table_number s t))
unknown s (Key t cs) = not (of_table (table_named s t) (λ table. not (list_any (λ c. not (has_column table c)) cs)))

-- a name, or a header text of a table, that a line before has
abbrev pub double : Sources → SourceLine → Bool
double s (Table t file offset) = is_some (table_number s t)
double s (Column t c kind header) = of_table (table_named s t) (λ table. has_column table c || has_header table (header_or c header))
double s (Key t cs) = false

-- a text that is no offset, and a column that stands twice in a key
abbrev pub mismatch : SourceLine → Bool
mismatch (Table t file offset) = not (is_some (offset_or offset))
mismatch (Column t c kind header) = false
mismatch (Key t cs) = has_twice cs

-- what there is with the line
abbrev pub counts : Sources → SourceLine → List (Counted × ℕ)
counts s (Table t file offset) = (Tables, length s.tables + 1) ∷ []
counts s (Column t c kind header) = (Columns, count_in (table_named s t) (λ table. length table.columns) + 1) ∷ []
counts s (Key t cs) = (Keys, count_in (table_named s t) (λ table. length table.keys) + 1) ∷ []

-- the first rule that a source line breaks
unfoldable pub broken : Sources → SourceLine → Option LineFault
broken s line = first_broken ((unknown s line, Unknown) ∷ (double s line, Double) ∷ (mismatch line, TypeMismatch) ∷ []) (counts s line)

abbrev pub or_utc : Option ℤ → ℤ
or_utc None = pos 0
or_utc (Some minutes) = minutes

-- the columns of these names
abbrev pub numbers_of : TableDecl → List (List ℕ) → List ColId
numbers_of table cs = filter_map (λ c. option_map col (column_number table c)) cs

-- the tables, where the one of a name is changed
abbrev pub changed : Sources → List ℕ → (TableDecl → TableDecl) → Sources
changed s t f = record s { tables = map (λ table. if bytes_eq table.name t then f table else table) s.tables }

-- the sources with a source line
unfoldable pub grown : Sources → SourceLine → Sources
grown s (Table t file offset) = record s { tables = s.tables ++ record { name = t; file = file; offset = or_utc (offset_or offset); columns = []; keys = [] } ∷ [] }
grown s (Column t c kind header) = changed s t (λ table. record table { columns = table.columns ++ record { name = c; header = header_or c header; kind = kind } ∷ [] })
grown s (Key t cs) = changed s t (λ table. record table { keys = table.keys ++ numbers_of table cs ∷ [] })

-- the sources with a source line's tokens, or its first fault
abbrev pub read_source_line : Sources → List ℕ → Result Sources LineFault
read_source_line s text = read_by source_line (broken s) (grown s) s (tokens_of text)
