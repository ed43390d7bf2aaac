-- Want of memory is no fault of bytes.
use Rattle.std.proofs.Common.{◌≡◌, ◌≢◌, ℕ, ℤ, ◌+◌, Bool, true, false, if◌then◌else◌, List, [], ◌∷◌, ◌++◌, length, Option, Some, None, Ok, Err}
use Rattle.vocabulary.specs.declared.ids.ValueKind.{ValueKind}
use Rattle.vocabulary.specs.declared.ids.ValueKind.TheVariants.{Text, Int, Bool as BoolKind, Time}
use Rattle.vocabulary.specs.declared.ids.ColId.{ColId}
use Rattle.source_tables.specs.declared.decl.ColumnDecl.{ColumnDecl}
use Rattle.source_tables.specs.declared.decl.TableDecl.{TableDecl}
use Rattle.source_tables.specs.declared.fault.TableFault.{TableFault}
use Rattle.source_tables.specs.declared.fault.TableFault.TheVariants.{NoMemory, NotUtf8, NullKey, TooManyRows, Width}
use Rattle.source_tables.specs.Cells.{Cell, Row, canonical}
use Rattle.source_tables.specs.Tables.{OrFault, ◌>>=◌, body_of, cell_fault, cell_or, check_key, check_keys, checked_cell, checked_cells, checked_header, checked_row, checked_rows, double_or, field_of, header_of, missing_or_header, records_of, table_of}

-- no want of memory is told
abbrev Tells : {A : Type 0} → OrFault A → Type 0
Tells {A} outcome = ◌≢◌ {A = OrFault A} outcome (Err NoMemory)

then_tells : {A B : Type 0} (first : OrFault A) (more : A → OrFault B) → Tells first → ((x : A) → Tells (more x)) → Tells (first >>= more)
then_tells (Ok x) more h k = k x
then_tells {A} {B} (Err fault) more h k = λ e. h (same fault e)
  where
    same : (fault : TableFault) → ◌≡◌ {A = OrFault B} (Err fault) (Err NoMemory) → ◌≡◌ {A = OrFault A} (Err fault) (Err NoMemory)
    same fault e = cc

if_tells : {A : Type 0} (c : Bool) (x y : OrFault A) → Tells x → Tells y → Tells (if c then x else y)
if_tells true x y h k = h
if_tells false x y h k = k

column_tells : (o : Option ℕ) (header : List (List ℕ)) → Tells (missing_or_header o header)
column_tells None header = λ e. cc
column_tells (Some c) header = λ e. cc

header_tells : (decl : TableDecl) (header : List (List ℕ)) → Tells (checked_header decl header)
header_tells decl header = if_tells _ _ (Err (NotUtf8 0)) (column_tells _ header) (λ e. cc)

kind_tells : (kind : ValueKind) (n c : ℕ) → Tells {A = Cell} (Err (cell_fault kind n c))
kind_tells Text n c = λ e. cc
kind_tells Int n c = λ e. cc
kind_tells BoolKind n c = λ e. cc
kind_tells Time n c = λ e. cc

text_tells : (o : Option (List ℕ)) (fault : TableFault) → Tells {A = Cell} (Err fault) → Tells (cell_or o fault)
text_tells None fault h = h
text_tells (Some text) fault h = λ e. cc

cell_tells : (offset : ℤ) (kind : ValueKind) (n c : ℕ) (field : List ℕ) → Tells (checked_cell offset kind n c field)
cell_tells offset kind n c [] = λ e. cc
cell_tells offset kind n c (b ∷ bytes) = text_tells (canonical offset kind (b ∷ bytes)) (cell_fault kind n c) (kind_tells kind n c)

cells_tell : (offset : ℤ) (header : List (List ℕ)) (n : ℕ) (fields : List (List ℕ)) (c : ℕ) (columns : List ColumnDecl) → Tells (checked_cells offset header n fields c columns)
cells_tell offset header n fields c [] = λ e. cc
cells_tell offset header n fields c (column ∷ columns) =
    then_tells (checked_cell offset column.kind n c (field_of header fields column)) _ (cell_tells offset column.kind n c (field_of header fields column))
    (λ cell. then_tells (checked_cells offset header n fields (c + 1) columns) _ (cells_tell offset header n fields (c + 1) columns) (λ cells e. cc))

double_tells : (o : Option ℕ) (n : ℕ) → Tells (double_or o n)
double_tells None n = λ e. cc
double_tells (Some i) n = λ e. cc

key_tells : (before : List Row) (n : ℕ) (row : Row) (key : List ColId) → Tells (check_key before n row key)
key_tells before n row key = if_tells _ (Err (NullKey n)) _ (λ e. cc) (double_tells _ n)

keys_tell : (before : List Row) (n : ℕ) (row : Row) (keys : List (List ColId)) → Tells (check_keys before n row keys)
keys_tell before n row [] = λ e. cc
keys_tell before n row (key ∷ keys) = then_tells (check_key before n row key) _ (key_tells before n row key) (λ checked. keys_tell before n row keys)

row_tells : (decl : TableDecl) (header : List (List ℕ)) (before : List Row) (fields : List (List ℕ)) → Tells (checked_row decl header before fields)
row_tells decl header before fields =
    if_tells _ (Err TooManyRows) _ (λ e. cc)
    (if_tells _ (Err (Width (length before + 1))) _ (λ e. cc)
    (if_tells _ (Err (NotUtf8 (length before + 1))) _ (λ e. cc)
    (then_tells (checked_cells decl.offset header (length before + 1) fields 0 decl.columns) _ (cells_tell decl.offset header (length before + 1) fields 0 decl.columns) (λ row. keys_tell before (length before + 1) row decl.keys))))

rows_tell : (decl : TableDecl) (header : List (List ℕ)) (before : List Row) (body : List (List (List ℕ))) → Tells (checked_rows decl header before body)
unfolding checked_rows
rows_tell decl header before [] = λ e. cc
rows_tell decl header before (fields ∷ more) = then_tells (checked_row decl header before fields) _ (row_tells decl header before fields) (λ row. rows_tell decl header (before ++ (row ∷ [])) more)

pub memory_is_no_fault : (decl : TableDecl) (bytes : List ℕ) → table_of decl bytes ≢ Err NoMemory
unfolding table_of
memory_is_no_fault decl bytes =
    then_tells (checked_header decl (header_of (records_of bytes))) _ (header_tells decl (header_of (records_of bytes)))
    (λ header. then_tells (checked_rows decl header [] (body_of (records_of bytes))) _ (rows_tell decl header [] (body_of (records_of bytes))) (λ rows e. cc))
