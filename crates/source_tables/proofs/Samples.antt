-- What small files are under the declaration of a table with a key.
use Rattle.std.proofs.Common.{◌≡◌, refl, ℕ, List, [], ◌∷◌, ◌++◌, Some, None, Result, Ok, Err, codes, map, pos}
use Rattle.csv.specs.Machine.{next_record}
use Rattle.csv.specs.Reading.{records_from, strip_bom}
use Rattle.std.specs.Str.{chars, is_utf8}
use Rattle.std.specs.Fmt.{digits}
use Rattle.civil_values.specs.TimeReader.{moment_of}
use Rattle.vocabulary.specs.declared.ids.ValueKind.TheVariants.{Text, Int, Bool, Time}
use Rattle.source_tables.specs.declared.decl.TableDecl.{TableDecl}
use Rattle.source_tables.specs.declared.fault.TableFault.{TableFault}
use Rattle.source_tables.specs.declared.fault.TableFault.TheVariants.{Header, NotUtf8, Width, BadCell, BadChar, NullKey, DoubleKey}
use Rattle.source_tables.specs.Cells.{Row, canonical}
use Rattle.source_tables.specs.Tables.{Loaded, OrFault, checked_rows, col, table_of}

abbrev papers : TableDecl
papers = record {
  name = codes "paper";
  file = codes "paper.csv";
  offset = pos 0;
  columns = record { name = codes "id"; header = codes "id"; kind = Int } ∷ record { name = codes "title"; header = codes "title"; kind = Text } ∷ [];
  keys = (col 0 ∷ []) ∷ [];
}

abbrev none_declared : TableDecl
none_declared = record { name = codes "t"; file = codes "t.csv"; offset = pos 0; columns = []; keys = [] }

abbrev rows_or_fault : OrFault Loaded → Result (List Row) TableFault
rows_or_fault (Ok loaded) = Ok loaded.rows
rows_or_fault (Err fault) = Err fault

abbrev says : TableDecl → List ℕ → Result (List Row) TableFault
says decl bytes = rows_or_fault (table_of decl bytes)

faults : map (says papers) (
    codes "id,title\n1,a\n2,b\n3,c\n4,d\n2,e" ∷
    codes "id,title\n7,a\n007,b" ∷
    codes "id,title\n,a" ∷
    codes "id,title\n1,a\n2" ∷
    (codes "id,title\n1," ++ (0xFF ∷ [])) ∷
    (codes "id,title\n1,a" ++ (7 ∷ [])) ∷
    codes "id,title\n9223372036854775808,a" ∷
    codes "id,titel\n" ∷
    codes "id,title,id\n" ∷
    (codes "id,title," ++ (0xC3 ∷ [])) ∷
    [] ∷ [])
    ≡ Err (DoubleKey 2 5) ∷ Err (DoubleKey 1 2) ∷ Err (NullKey 1) ∷ Err (Width 2) ∷ Err (NotUtf8 1) ∷ Err (BadChar 1 (col 1)) ∷ Err (BadCell 1 (col 0))
    ∷ Err (Header (col 1)) ∷ Err (Header (col 0)) ∷ Err (NotUtf8 0) ∷ Err (Header (col 0)) ∷ []
unfolding table_of checked_rows records_from next_record strip_bom chars is_utf8 lib.Utf8.encode digits
faults = refl

marked : says papers ((0xEF ∷ 0xBB ∷ 0xBF ∷ []) ++ codes "id,title\r\n1,a\r\n") ≡ Ok ((Some (codes "1") ∷ Some (codes "a") ∷ []) ∷ [])
unfolding table_of checked_rows records_from next_record strip_bom chars is_utf8 lib.Utf8.encode digits
marked = refl

other_columns : says papers (codes "x,title,id\nq,a,+05\n") ≡ Ok ((Some (codes "5") ∷ Some (codes "a") ∷ []) ∷ [])
unfolding table_of checked_rows records_from next_record strip_bom chars is_utf8 lib.Utf8.encode digits
other_columns = refl

empty_is_null : says papers (codes "id,title\n1,\n") ≡ Ok ((Some (codes "1") ∷ None ∷ []) ∷ [])
unfolding table_of checked_rows records_from next_record strip_bom chars is_utf8 lib.Utf8.encode digits
empty_is_null = refl

-- a table without columns keeps its number of rows, and no bytes are a table without rows
no_columns : map (says none_declared) (codes "a\n1\n2\n" ∷ [] ∷ []) ≡ Ok ([] ∷ [] ∷ []) ∷ Ok [] ∷ []
unfolding table_of checked_rows records_from next_record strip_bom chars is_utf8 lib.Utf8.encode
no_columns = refl

-- the offset of a declaration is that of times without one
day_by_offset : canonical (pos 60) Time (codes "2024-03-11") ≡ Some (codes "2024-03-10T23:00:00.000+00:00")
unfolding moment_of
day_by_offset = refl

small_values : canonical (pos 0) Int (codes "+007") ∷ canonical (pos 0) Bool (codes "T") ∷ canonical (pos 0) Text [] ∷ [] ≡ Some (codes "7") ∷ Some (codes "true") ∷ None ∷ []
unfolding chars digits
small_values = refl
