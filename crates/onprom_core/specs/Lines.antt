-- The lines of the report that a run may stop with.
use Rattle.std.specs.Prelude.{ℕ, List, [], ◌++◌, codes, decimal, Option, Some, None, slice_get}
use Rattle.vocabulary.specs.declared.ids.ColId.{ColId}
use Rattle.source_tables.specs.declared.decl.ColumnDecl.{ColumnDecl}
use Rattle.source_tables.specs.declared.decl.TableDecl.{TableDecl}
use Rattle.source_tables.specs.declared.fault.TableFault.{TableFault}
use Rattle.source_tables.specs.declared.fault.TableFault.TheVariants.{Header, NotUtf8, Width, BadCell, BadChar, NullKey, DoubleKey, TooManyRows, NoMemory}

-- a name between two parts
abbrev pub named_line : List ℕ → List ℕ → List ℕ → List ℕ
named_line front name back = front ++ name ++ back

unfoldable pub usage_line : List ℕ
usage_line = codes "usage: extract P | check P | verify P D | answer P Q | rewrite P Q | make N F | why P Q N | lint P | contained P Q Q\n"

abbrev pub absent_line : List ℕ → List ℕ
absent_line file = named_line (codes "absent: ") file (codes "\n")

abbrev pub fault_line : List ℕ → List ℕ
fault_line file = named_line (codes "read fault: ") file (codes "\n")

abbrev pub limit_line : List ℕ → List ℕ
limit_line name = named_line (codes "limit: ") name (codes "\n")

-- a line of a project or of derivations with a fault of this kind
unfoldable pub line_refused : List ℕ → ℕ → List ℕ → List ℕ
line_refused file line kind = codes "refused: " ++ file ++ codes " line " ++ decimal line ++ codes ": " ++ kind ++ codes "\n"

-- a query that is not there
unfoldable pub query_refused : List ℕ → List ℕ
query_refused name = codes "refused: query " ++ name ++ codes ": Unknown\n"

-- a second query whose head is longer or shorter than that of the first
unfoldable pub width_refused : List ℕ → List ℕ
width_refused name = codes "refused: query " ++ name ++ codes ": HeadWidth\n"

-- an answer of a number that is greater than how many there are
unfoldable pub answer_refused : ℕ → List ℕ
answer_refused number = codes "refused: answer " ++ decimal number ++ codes ": Unknown\n"

-- a row of a table, of which row 0 is the header
unfoldable pub row_refused : List ℕ → ℕ → List ℕ → List ℕ
row_refused file row kind = codes "refused: " ++ file ++ codes " row " ++ decimal row ++ codes ": " ++ kind ++ codes "\n"

-- two rows of a table
unfoldable pub rows_refused : List ℕ → ℕ → ℕ → List ℕ
rows_refused file one two = codes "refused: " ++ file ++ codes " rows " ++ decimal one ++ codes " " ++ decimal two ++ codes ": " ++ codes "DoubleKey" ++ codes "\n"

-- a cell of a table, by its row and the name of its column
unfoldable pub cell_refused : List ℕ → ℕ → List ℕ → List ℕ → List ℕ
cell_refused file row column kind = codes "refused: " ++ file ++ codes " row " ++ decimal row ++ codes " column " ++ column ++ codes ": " ++ kind ++ codes "\n"

-- a column that the header has not exactly once
unfoldable pub column_refused : List ℕ → List ℕ → List ℕ
column_refused file column = codes "refused: " ++ file ++ codes " column " ++ column ++ codes ": Header\n"

abbrev pub name_or_none : Option ColumnDecl → List ℕ
name_or_none None = []
name_or_none (Some column) = column.name

-- the declared name of a column
abbrev pub column_name : TableDecl → ColId → List ℕ
column_name decl column = name_or_none (slice_get decl.columns column.0)

-- the line of a table's fault; too many rows are a limit, and want of memory has no line
abbrev pub table_refused : TableDecl → TableFault → List ℕ
table_refused decl (Header c) = column_refused decl.file (column_name decl c)
table_refused decl (NotUtf8 row) = row_refused decl.file row (codes "NotUtf8")
table_refused decl (Width row) = row_refused decl.file row (codes "Width")
table_refused decl (BadCell row c) = cell_refused decl.file row (column_name decl c) (codes "BadCell")
table_refused decl (BadChar row c) = cell_refused decl.file row (column_name decl c) (codes "BadChar")
table_refused decl (NullKey row) = row_refused decl.file row (codes "NullKey")
table_refused decl (DoubleKey one two) = rows_refused decl.file one two
table_refused decl TooManyRows = []
table_refused decl NoMemory = []
