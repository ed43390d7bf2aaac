-- One row more.
use Rattle.std.proofs.Common.{◌≡◌, ◌∙◌, sym, refl, ap, subst, ℕ, zero, suc, ◌+◌, ◌*◌, ◌<◌, ◌≤◌, List, [], ◌∷◌, ◌++◌, ◌==◌, nat_lt, true, false, length, take, drop, map, Ok, Err, arith, length-append}
use Rattle.std.specs.List.{All, list_all}
use Rattle.std.specs.Str.{is_utf8}
use Rattle.std.proofs.lemmas.Bool.Decides.{nat_tests}
use Rattle.std.proofs.lemmas.List.{take-append-le, drop-append-le, drop-drop, length-drop, length-map, drop_at, take_at, take_all}
use Rattle.std.proofs.lemmas.List.Elements.{All-append}
use Rattle.cell_store.specs.Grid.{Grid}
use Rattle.vocabulary.specs.declared.ids.ColId.{ColId}
use Rattle.source_tables.specs.declared.decl.TableDecl.{TableDecl}
use Rattle.source_tables.specs.declared.fault.TableFault.{TableFault}
use Rattle.source_tables.specs.declared.fault.TableFault.TheVariants.{NotUtf8, Width, TooManyRows}
use Rattle.source_tables.specs.Cells.{Cell, Row, HasText}
use Rattle.source_tables.specs.Tables.{OrFault, TellsApart, ◌>>=◌, check_keys, checked_cells, checked_row, cut_rows, rows_limit}
use Rattle.source_tables.specs.Loading.{AddsRow, AreRead, Fails, Puts, PutsRow, key_texts, keyed_row, place_in, placed_cells, row_at, rows_in}
use Rattle.source_tables.proofs.Cutting.{length-cut_rows}
use Rattle.source_tables.proofs.KeysApart.{keys_more}
use Rattle.source_tables.proofs.Rows.{by_places}

-- rows that are cut off the front do not see what is put behind
pub cut_front : (n width : ℕ) (cells more : List Cell) → length cells ≡ n * width → cut_rows n width (cells ++ more) ≡ cut_rows n width cells
cut_front zero width cells more long = refl
cut_front (suc n) width cells more long =
    let within : width ≤ length cells = omega (arith, long) in
    let rest : length (drop width cells) ≡ n * width = omega (arith, length-drop width cells, long) in
    ap (λ (r : Row). r ∷ cut_rows n width (drop width (cells ++ more))) (take-append-le width cells more within)
    ∙ ap (λ (cs : List Cell). take width cells ∷ cut_rows n width cs) (drop-append-le width cells more within)
    ∙ ap (λ (rows : List Row). take width cells ∷ rows) (cut_front n width (drop width cells) more rest)

-- one row more is the cells behind those of the rows before
pub cut_last : (n width : ℕ) (cells : List Cell) → cut_rows (suc n) width cells ≡ cut_rows n width cells ++ (row_at width n cells ∷ [])
cut_last zero width cells =
    let start : 0 ≡ 0 * width = omega arith in
    ap (λ (k : ℕ). take width (drop k cells) ∷ []) start
cut_last (suc n) width cells =
    let place : width + n * width ≡ suc n * width = omega arith in
    ap (λ (rows : List Row). take width cells ∷ rows) (cut_last n width (drop width cells)
    ∙ ap (λ (cs : List Cell). cut_rows n width (drop width cells) ++ (take width cs ∷ [])) (drop-drop (n * width) width cells ∙ ap (λ (k : ℕ). drop k cells) place))

-- a row whose cells are put behind those of the rows before
pub record Pushed (decl : TableDecl) (header : List (List ℕ)) (n : ℕ) (fields : List (List ℕ)) (old new : Grid) : Type 0 where
  pub row : Row
  pub is : checked_cells decl.offset header n fields 0 decl.columns ≡ Ok row
  pub puts : Puts old new row
  pub long : length row ≡ length decl.columns

row_put : (read : OrFault Row) (old new : Grid) → PutsRow read old new → (row : Row) × (read ≡ Ok row) × Puts old new row
row_put (Ok row) old new puts = (row, refl, puts)
row_put (Err e) old new puts = absurd puts

placed : (decl : TableDecl) (header : List (List ℕ)) (places : List ℕ) (n : ℕ) (fields : List (List ℕ)) → places ≡ map (place_in header) decl.columns
    → placed_cells decl.offset n fields 0 places decl.columns ≡ checked_cells decl.offset header n fields 0 decl.columns
placed decl header places n fields are =
    ap (λ (ps : List ℕ). placed_cells decl.offset n fields 0 ps decl.columns) are ∙ by_places decl.offset n header fields 0 decl.columns

pub pushed : (decl : TableDecl) (header : List (List ℕ)) (places : List ℕ) (n : ℕ) (fields : List (List ℕ)) (old new : Grid) → places ≡ map (place_in header) decl.columns
    → PutsRow (placed_cells decl.offset n fields 0 places decl.columns) old new → length new.cells ≡ length old.cells + length decl.columns
    → Pushed decl header n fields old new
pushed decl header places n fields old new are put long =
    let found = row_put (placed_cells decl.offset n fields 0 places decl.columns) old new put in
    record {
      row = found.0;
      is = sym (placed decl header places n fields are) ∙ found.1;
      puts = found.2;
      long = omega (arith, long, ap length found.2.behind, length-append old.cells found.0);
    }

first_fails : (first : OrFault Row) (rest : Row → OrFault Row) (e : TableFault) → first ≡ Err e → (first >>= rest) ≡ Err e
first_fails first rest e fails = ap (λ (r : OrFault Row). r >>= rest) fails

second_is : (first : OrFault Row) (rest : Row → OrFault Row) (row : Row) (due : OrFault Row) → first ≡ Ok row → rest row ≡ due → (first >>= rest) ≡ due
second_is first rest row due is then' = ap (λ (r : OrFault Row). r >>= rest) is ∙ then'

pub cells_fail : (decl : TableDecl) (header : List (List ℕ)) (places : List ℕ) (before : List Row) (n : ℕ) (fields : List (List ℕ)) (e : TableFault) → places ≡ map (place_in header) decl.columns
    → Fails e (placed_cells decl.offset n fields 0 places decl.columns) → Fails e (keyed_row decl header before n fields)
cells_fail decl header places before n fields e are fails = λ other.
    first_fails (checked_cells decl.offset header n fields 0 decl.columns) (λ row. check_keys before n row decl.keys) e (sym (placed decl header places n fields are) ∙ fails other)

-- the rows before and the last row, in the cells that are there now
rows_before : (decl : TableDecl) (header : List (List ℕ)) (n count : ℕ) (fields : List (List ℕ)) (old new : Grid) → Pushed decl header n fields old new → length old.cells ≡ count * length decl.columns
    → rows_in decl count new ≡ rows_in decl count old
rows_before decl header n count fields old new push long =
    ap (λ (cells : List Cell). cut_rows count (length decl.columns) cells) push.puts.behind ∙ cut_front count (length decl.columns) old.cells push.row long

last_row : (decl : TableDecl) (header : List (List ℕ)) (n count : ℕ) (fields : List (List ℕ)) (old new : Grid) (push : Pushed decl header n fields old new) → length old.cells ≡ count * length decl.columns
    → row_at (length decl.columns) count new.cells ≡ push.row
last_row decl header n count fields old new push long =
    ap (λ (cells : List Cell). row_at (length decl.columns) count cells) push.puts.behind
    ∙ ap (λ (cells : List Cell). take (length decl.columns) cells) (drop_at old.cells push.row (count * length decl.columns) long)
    ∙ take_all (length decl.columns) push.row (omega (arith, push.long))

keys_of : (decl : TableDecl) (header : List (List ℕ)) (count : ℕ) (fields : List (List ℕ)) (old new : Grid) (push : Pushed decl header (count + 1) fields old new) → length old.cells ≡ count * length decl.columns
    → (due : OrFault Row) → check_keys (rows_in decl count new) (count + 1) (row_at (length decl.columns) count new.cells) decl.keys ≡ due
    → keyed_row decl header (rows_in decl count old) (count + 1) fields ≡ due
keys_of decl header count fields old new push long due is =
    second_is (checked_cells decl.offset header (count + 1) fields 0 decl.columns) (λ row. check_keys (rows_in decl count old) (count + 1) row decl.keys) push.row due push.is
    (ap (λ (rows : List Row). check_keys rows (count + 1) push.row decl.keys) (sym (rows_before decl header (count + 1) count fields old new push long))
    ∙ ap (λ (row : Row). check_keys (rows_in decl count new) (count + 1) row decl.keys) (sym (last_row decl header (count + 1) count fields old new push long))
    ∙ is)

pub keys_fail : (decl : TableDecl) (header : List (List ℕ)) (count : ℕ) (fields : List (List ℕ)) (old new : Grid) (indexes : List (List (List ℕ))) (e : TableFault)
    → Pushed decl header (count + 1) fields old new → AreRead decl count old indexes
    → Fails e (check_keys (rows_in decl count new) (count + 1) (row_at (length decl.columns) count new.cells) decl.keys)
    → Fails e (keyed_row decl header (rows_in decl count old) (count + 1) fields)
keys_fail decl header count fields old new indexes e push read fails = λ other. keys_of decl header count fields old new push read.long (Err e) (fails other)

-- the indexes before the last row
pub indexes_before : (decl : TableDecl) (header : List (List ℕ)) (count : ℕ) (fields : List (List ℕ)) (old new : Grid) (indexes : List (List (List ℕ)))
    → Pushed decl header (count + 1) fields old new → AreRead decl count old indexes → indexes ≡ map (λ key. key_texts key (rows_in decl count new)) decl.keys
indexes_before decl header count fields old new indexes push read =
    read.numbered ∙ ap (λ (rows : List Row). map (λ key. key_texts key rows) decl.keys) (sym (rows_before decl header (count + 1) count fields old new push read.long))

rows_after : (decl : TableDecl) (count : ℕ) (new : Grid) → rows_in decl (count + 1) new ≡ rows_in decl count new ++ (row_at (length decl.columns) count new.cells ∷ [])
rows_after decl count new =
    let next : count + 1 ≡ suc count = omega arith in
    ap (λ (n : ℕ). cut_rows n (length decl.columns) new.cells) next ∙ cut_last count (length decl.columns) new.cells

adds : (read : OrFault Row) (row : Row) (before after : List Row) → read ≡ Ok row → after ≡ before ++ (row ∷ []) → AddsRow read before after
adds read row before after is e = rw is e

pub row_added : (decl : TableDecl) (header : List (List ℕ)) (count : ℕ) (fields : List (List ℕ)) (old new : Grid) (indexes : List (List (List ℕ)))
    → Pushed decl header (count + 1) fields old new → AreRead decl count old indexes
    → check_keys (rows_in decl count new) (count + 1) (row_at (length decl.columns) count new.cells) decl.keys ≡ Ok (row_at (length decl.columns) count new.cells)
    → AddsRow (keyed_row decl header (rows_in decl count old) (count + 1) fields) (rows_in decl count old) (rows_in decl (count + 1) new)
row_added decl header count fields old new indexes push read ok =
    adds (keyed_row decl header (rows_in decl count old) (count + 1) fields) (row_at (length decl.columns) count new.cells) (rows_in decl count old) (rows_in decl (count + 1) new)
    (keys_of decl header count fields old new push read.long (Ok (row_at (length decl.columns) count new.cells)) ok)
    (rows_after decl count new ∙ ap (λ (rows : List Row). rows ++ (row_at (length decl.columns) count new.cells ∷ [])) (rows_before decl header (count + 1) count fields old new push read.long))

pub read_more : (decl : TableDecl) (header : List (List ℕ)) (count : ℕ) (fields : List (List ℕ)) (old new : Grid) (indexes after : List (List (List ℕ)))
    → Pushed decl header (count + 1) fields old new → AreRead decl count old indexes → count < 1_000_000
    → check_keys (rows_in decl count new) (count + 1) (row_at (length decl.columns) count new.cells) decl.keys ≡ Ok (row_at (length decl.columns) count new.cells)
    → after ≡ map (λ key. key_texts key (rows_in decl count new ++ (row_at (length decl.columns) count new.cells ∷ []))) decl.keys
    → AreRead decl (count + 1) new after
read_more decl header count fields old new indexes after push read room right e = record {
  most = omega arith;
  long = omega (arith, read.long, ap length push.puts.behind, length-append old.cells push.row, push.long);
  cols = λ some. push.puts.cols ∙ read.cols some;
  texts = subst (λ (cells : List Cell). All HasText cells) (sym push.puts.behind) (All-append HasText old.cells push.row read.texts push.puts.texts);
  keys = subst (λ (rows : List Row). All (TellsApart rows) decl.keys) (sym (rows_after decl count new))
      (keys_more (rows_in decl count new) (count + 1) (row_at (length decl.columns) count new.cells) (row_at (length decl.columns) count new.cells) decl.keys
      (subst (λ (rows : List Row). All (TellsApart rows) decl.keys) (sym (rows_before decl header (count + 1) count fields old new push read.long)) read.keys) right);
  numbered = e ∙ ap (λ (rows : List Row). map (λ key. key_texts key rows) decl.keys) (sym (rows_after decl count new));
}

-- what a borrowed slice of all items writes back
pub written_back : {X : Type 0} (items new : List X) (len : ℕ) → len ≡ length items → length new ≡ length items → take len (new ++ drop (length new) items) ≡ new
written_back items new len is long = take_at new (drop (length new) items) len (long ∙ sym is)

pub same_keys : (decl : TableDecl) (count : ℕ) (old : Grid) (indexes after : List (List (List ℕ))) (rows : List Row) → AreRead decl count old indexes
    → after ≡ map (λ key. key_texts key rows) decl.keys → length after ≡ length indexes
same_keys decl count old indexes after rows read e =
    ap length e ∙ length-map decl.keys (λ (key : List ColId). key_texts key rows)
    ∙ sym (length-map decl.keys (λ (key : List ColId). key_texts key (rows_in decl count old))) ∙ sym (ap length read.numbered)

-- the tests before the cells
count_rows : (decl : TableDecl) (count : ℕ) (cells : Grid) → length (rows_in decl count cells) ≡ count
count_rows decl count cells = length-cut_rows count (length decl.columns) cells.cells

pub too_many : (decl : TableDecl) (header : List (List ℕ)) (count : ℕ) (cells : Grid) (fields : List (List ℕ)) → count ≡ 1_000_000
    → checked_row decl header (rows_in decl count cells) fields ≡ Err TooManyRows
too_many decl header count cells fields e =
    let more : nat_lt rows_limit (length (rows_in decl count cells) + 1) ≡ true = grind (arith, nat_tests, count_rows decl count cells) in
    rw more refl

within : (decl : TableDecl) (count : ℕ) (cells : Grid) → count < 1_000_000 → nat_lt rows_limit (length (rows_in decl count cells) + 1) ≡ false
within decl count cells room = grind (arith, nat_tests, count_rows decl count cells)

pub wrong_width : (decl : TableDecl) (header : List (List ℕ)) (count : ℕ) (cells : Grid) (fields : List (List ℕ)) → count < 1_000_000 → (length fields ≡ length header → ⊥)
    → checked_row decl header (rows_in decl count cells) fields ≡ Err (Width (count + 1))
wrong_width decl header count cells fields room other =
    let differ : (length fields == length header) ≡ false = grind (arith, nat_tests) in
    rw (within decl count cells room, differ) (ap (λ (n : ℕ). Err (Width (n + 1))) (count_rows decl count cells))

pub no_text : (decl : TableDecl) (header : List (List ℕ)) (count : ℕ) (cells : Grid) (fields : List (List ℕ)) → count < 1_000_000 → length fields ≡ length header → list_all is_utf8 fields ≡ false
    → checked_row decl header (rows_in decl count cells) fields ≡ Err (NotUtf8 (count + 1))
no_text decl header count cells fields room same utf8 =
    let same' : (length fields == length header) ≡ true = grind (arith, nat_tests) in
    rw (within decl count cells room, same', utf8) (ap (λ (n : ℕ). Err (NotUtf8 (n + 1))) (count_rows decl count cells))

pub row_is : (decl : TableDecl) (header : List (List ℕ)) (count : ℕ) (cells : Grid) (fields : List (List ℕ)) → count < 1_000_000 → length fields ≡ length header → list_all is_utf8 fields ≡ true
    → checked_row decl header (rows_in decl count cells) fields ≡ keyed_row decl header (rows_in decl count cells) (count + 1) fields
row_is decl header count cells fields room same utf8 =
    let same' : (length fields == length header) ≡ true = grind (arith, nat_tests) in
    rw (within decl count cells room, same', utf8) (ap (λ (n : ℕ). keyed_row decl header (rows_in decl count cells) (n + 1) fields) (count_rows decl count cells))
