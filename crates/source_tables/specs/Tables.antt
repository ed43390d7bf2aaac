-- The table that the bytes of a file are under a declaration, or their first fault.
use Rattle.std.specs.Prelude.{◌≡◌, ◌<◌, ℕ, ℤ, zero, suc, ◌+◌, ◌==◌, nat_lt, nat_eq, not, Bool, true, false, ◌&&◌, if◌then◌else◌, List, [], ◌∷◌, ◌++◌, length, take, drop, get_or, map, count_by, position, Option, Some, None, Result, Ok, Err}
use Rattle.std.specs.List.{All, list_all, list_any, position_or_len}
use Rattle.std.specs.Str.{bytes_eq, is_utf8}
use Rattle.csv.specs.Reading.{records, default_config, strip_bom}
use Rattle.vocabulary.specs.declared.ids.ValueKind.{ValueKind}
use Rattle.vocabulary.specs.declared.ids.ValueKind.TheVariants.{Text, Int, Bool as BoolKind, Time}
use Rattle.vocabulary.specs.declared.ids.ColId.{ColId}
use Rattle.source_tables.specs.declared.decl.ColumnDecl.{ColumnDecl}
use Rattle.source_tables.specs.declared.decl.TableDecl.{TableDecl}
use Rattle.source_tables.specs.declared.fault.TableFault.{TableFault}
use Rattle.source_tables.specs.declared.fault.TableFault.TheVariants.{Header, NotUtf8, Width, BadCell, BadChar, NullKey, DoubleKey, TooManyRows}
use Rattle.source_tables.specs.Cells.{Cell, Row, HasText, canonical, is_null}

-- a table: its declaration, and its rows, each with one cell for each declared column
pub record Loaded : Type 0 where
  pub decl : TableDecl
  pub rows : List Row

-- so many rows of one width, from cells that follow one another
abbrev pub cut_rows : ℕ → ℕ → List Cell → List Row
cut_rows zero width cells = []
cut_rows (suc n) width cells = take width cells ∷ cut_rows n width (drop width cells)

-- each cell of each row is null or a text of XML 1.0
abbrev pub HasTexts : Loaded → Type 0
HasTexts table = All (All HasText) table.rows

abbrev pub OrFault : Type 0 → Type 0
OrFault A = Result A TableFault

infixl 10 ◌>>=◌
-- go on with a value, or stop at a fault
abbrev pub ◌>>=◌ : {A B : Type 0} → OrFault A → (A → OrFault B) → OrFault B
(Ok x) >>= f = f x
(Err e) >>= f = Err e

-- the records of a file (RFC 4180), without the byte order mark before them
abbrev pub records_of : List ℕ → List (List (List ℕ))
records_of bytes = records default_config (strip_bom bytes)

-- the first record, or no texts where there is none
abbrev pub header_of : List (List (List ℕ)) → List (List ℕ)
header_of [] = []
header_of (header ∷ body) = header

abbrev pub body_of : List (List (List ℕ)) → List (List (List ℕ))
body_of [] = []
body_of (header ∷ body) = body

-- the number of a column
abbrev pub col : ℕ → ColId
col n = record { 0 = n }

-- a column's header text stands in the header exactly once
abbrev pub has_place : List (List ℕ) → ColumnDecl → Bool
has_place header column = count_by (bytes_eq column.header) header == 1

abbrev pub missing_or_header : Option ℕ → List (List ℕ) → OrFault (List (List ℕ))
missing_or_header None header = Ok header
missing_or_header (Some c) header = Err (Header (col c))

-- the header, if it is UTF-8 and has each declared column once
abbrev pub checked_header : TableDecl → List (List ℕ) → OrFault (List (List ℕ))
checked_header decl header =
    if list_all is_utf8 header then missing_or_header (position (λ column. not (has_place header column)) decl.columns) header
    else Err (NotUtf8 0)

-- why a cell of row n in column c is refused
abbrev pub cell_fault : ValueKind → ℕ → ℕ → TableFault
cell_fault Text n c = BadChar n (col c)
cell_fault Int n c = BadCell n (col c)
cell_fault BoolKind n c = BadCell n (col c)
cell_fault Time n c = BadCell n (col c)

abbrev pub cell_or : Option (List ℕ) → TableFault → OrFault Cell
cell_or None fault = Err fault
cell_or (Some text) fault = Ok (Some text)

-- a field as a cell: an empty one is null, another has a canonical text
abbrev pub checked_cell : ℤ → ValueKind → ℕ → ℕ → List ℕ → OrFault Cell
checked_cell offset kind n c [] = Ok None
checked_cell offset kind n c (b ∷ bytes) = cell_or (canonical offset kind (b ∷ bytes)) (cell_fault kind n c)

-- the field that stands where the header has this column
abbrev pub field_of : List (List ℕ) → List (List ℕ) → ColumnDecl → List ℕ
field_of header fields column = get_or fields (position_or_len (bytes_eq column.header) header) []

-- the cells of row n in the columns from c on
abbrev pub checked_cells : ℤ → List (List ℕ) → ℕ → List (List ℕ) → ℕ → List ColumnDecl → OrFault Row
checked_cells offset header n fields c [] = Ok []
checked_cells offset header n fields c (column ∷ columns) =
    checked_cell offset column.kind n c (field_of header fields column) >>= (λ cell.
    checked_cells offset header n fields (c + 1) columns >>= (λ cells. Ok (cell ∷ cells)))

-- the cells of a row in the columns of a key
abbrev pub key_cells : List ColId → Row → List Cell
key_cells key row = map (λ c. get_or row c.0 None) key

abbrev pub cell_same : Cell → Cell → Bool
cell_same None None = true
cell_same None (Some b) = false
cell_same (Some a) None = false
cell_same (Some a) (Some b) = bytes_eq a b

abbrev pub cells_same : List Cell → List Cell → Bool
cells_same [] [] = true
cells_same [] (b ∷ bs) = false
cells_same (a ∷ as') [] = false
cells_same (a ∷ as') (b ∷ bs) = cell_same a b && cells_same as' bs

abbrev pub double_or : Option ℕ → ℕ → OrFault (Unit {0})
double_or None n = Ok tt
double_or (Some i) n = Err (DoubleKey (i + 1) n)

-- row n, after these rows, has no null in a key, and no earlier row has its key cells
abbrev pub check_key : List Row → ℕ → Row → List ColId → OrFault (Unit {0})
check_key before n row key =
    if list_any is_null (key_cells key row) then Err (NullKey n)
    else double_or (position (λ earlier. cells_same (key_cells key earlier) (key_cells key row)) before) n

-- one key after the other
abbrev pub check_keys : List Row → ℕ → Row → List (List ColId) → OrFault Row
check_keys before n row [] = Ok row
check_keys before n row (key ∷ keys) = check_key before n row key >>= (λ checked. check_keys before n row keys)

-- of these rows no two agree in all columns of the key
abbrev pub TellsApart : List Row → List ColId → Type 0
TellsApart rows key = (i j : ℕ) → i < length rows → j < length rows → key_cells key (get_or rows i []) ≡ key_cells key (get_or rows j []) → i ≡ j

-- and so for each key of the table
abbrev pub HasKeys : Loaded → Type 0
HasKeys table = All (TellsApart table.rows) table.decl.keys

abbrev pub rows_limit : ℕ
rows_limit = 1_000_000

-- a record as a row, after these rows
abbrev pub checked_row : TableDecl → List (List ℕ) → List Row → List (List ℕ) → OrFault Row
checked_row decl header before fields =
    if nat_lt rows_limit (length before + 1) then Err TooManyRows
    else (if not (length fields == length header) then Err (Width (length before + 1))
    else (if not (list_all is_utf8 fields) then Err (NotUtf8 (length before + 1))
    else (checked_cells decl.offset header (length before + 1) fields 0 decl.columns >>= (λ row. check_keys before (length before + 1) row decl.keys))))

-- the rows of these records, after the rows before them
unfoldable pub checked_rows : TableDecl → List (List ℕ) → List Row → List (List (List ℕ)) → OrFault (List Row)
checked_rows decl header before [] = Ok before
checked_rows decl header before (fields ∷ more) = checked_row decl header before fields >>= (λ row. checked_rows decl header (before ++ (row ∷ [])) more)

-- the table of a declaration and bytes, or the first fault of the bytes
unfoldable pub table_of : TableDecl → List ℕ → OrFault Loaded
table_of decl bytes =
    checked_header decl (header_of (records_of bytes)) >>= (λ header.
    checked_rows decl header [] (body_of (records_of bytes)) >>= (λ rows. Ok (record { decl = decl; rows = rows })))

-- the columns of some declared key are all among these
abbrev pub has_key_in : TableDecl → List ColId → Bool
has_key_in decl cols = list_any (λ key. list_all (λ c. list_any (λ d. nat_eq c.0 d.0) cols) key) decl.keys
