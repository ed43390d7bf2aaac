-- Of rows that passed the test of their keys no two agree in a key.
use Rattle.std.proofs.Common.{◌≡◌, ◌∙◌, sym, refl, ap, ℕ, nat_lt, ◌<◌, ◌≤◌, ◌⊎◌, inl, inr, Bool, true, false, List, [], ◌∷◌, ◌++◌, length, get_or, if◌then◌else◌, Option, None, Some, Ok, Err, arith, length-append}
use Rattle.std.specs.List.{All, list_any, position, position_or_len}
use Rattle.std.proofs.lemmas.Bool.{cases_lt, ltb-false}
use Rattle.std.proofs.lemmas.List.{get_or_append_left, get_or_push}
use Rattle.std.proofs.lemmas.List.Elements.{All-cons, All-head, All-nil, All-tail}
use Rattle.std.proofs.lemmas.List.Sums.{fails_before_first}
use Rattle.vocabulary.specs.declared.ids.ColId.{ColId}
use Rattle.source_tables.specs.declared.fault.TableFault.TheVariants.{NullKey}
use Rattle.source_tables.specs.Cells.{Cell, Row, is_null}
use Rattle.source_tables.specs.Tables.{OrFault, TellsApart, ◌>>=◌, cells_same, check_key, check_keys, double_or, key_cells}
use Rattle.source_tables.proofs.Keys.{cells_self}

-- no row before has the key cells of the next
position_none : (test : Row → Bool) (rows : List Row) → position test rows ≡ None → (k : ℕ) → k < length rows → test (get_or rows k []) ≡ false
position_none test rows none k low = fails_before_first test rows k [] (let past = by (nat_lt (position_or_len test rows) (length rows)) refl none in omega (arith, low, past))
  where
    by : (b : Bool) → nat_lt (position_or_len test rows) (length rows) ≡ b → (if b then Some (position_or_len test rows) else None) ≡ None → length rows ≤ position_or_len test rows
    by true is e = cc
    by false is e = ltb-false (position_or_len test rows) (length rows) is

not_double : (b : Bool) (o : Option ℕ) (n : ℕ) → (if b then Err (NullKey n) else double_or o n) ≡ Ok tt → o ≡ None
not_double true o n e = cc
not_double false None n e = refl
not_double false (Some i) n e = cc

key_new : (before : List Row) (n : ℕ) (row : Row) (key : List ColId) → check_key before n row key ≡ Ok tt → (k : ℕ) → k < length before → cells_same (key_cells key (get_or before k [])) (key_cells key row) ≡ false
key_new before n row key right =
    position_none (λ earlier. cells_same (key_cells key earlier) (key_cells key row)) before
    (not_double (list_any is_null (key_cells key row)) (position (λ earlier. cells_same (key_cells key earlier) (key_cells key row)) before) n right)

-- so the rows with it are told apart by the key
module _ (before : List Row) (row : Row) (key : List ColId) (apart : TellsApart before key) (new : (k : ℕ) → k < length before → cells_same (key_cells key (get_or before k [])) (key_cells key row) ≡ false) where
  abbrev rows : List Row
  rows = before ++ (row ∷ [])

  front : (k : ℕ) → k < length before → get_or rows k [] ≡ get_or before k []
  front k low = get_or_append_left before (row ∷ []) [] k low

  last : (k : ℕ) → length before ≡ k → get_or rows k [] ≡ row
  last k is = get_or_push before row [] k is

  place : (k : ℕ) → k < length rows → (k < length before) ⊎ (length before ≡ k)
  place k low = elim (cases_lt k (length before)) [ inl l ↦ inl l | inr past ↦ inr (let long = length-append before (row ∷ []) in omega (arith, low, past, long)) ]

  clash : (k : ℕ) → k < length before → key_cells key (get_or before k []) ≡ key_cells key row → ⊥
  clash k low same =
      let no : cells_same (key_cells key row) (key_cells key row) ≡ false = ap (λ (cells : List Cell). cells_same cells (key_cells key row)) (sym same) ∙ new k low in
      let both : true ≡ false = sym (cells_self (key_cells key row)) ∙ no in
      cc

  row_more : TellsApart rows key
  row_more i j low high same = elim (place i low) [
    | inl l ↦ elim (place j high) [
      | inl m ↦ apart i j l m (sym (ap (key_cells key) (front i l)) ∙ same ∙ ap (key_cells key) (front j m))
      | inr e ↦ absurd (clash i l (sym (ap (key_cells key) (front i l)) ∙ same ∙ ap (key_cells key) (last j e)))
    ]
    | inr e ↦ elim (place j high) [
      | inl m ↦ absurd (clash j m (sym (ap (key_cells key) (front j m)) ∙ sym same ∙ ap (key_cells key) (last i e)))
      | inr f ↦ sym e ∙ f
    ]
  ]

both_right : (first : OrFault (Unit {0})) (rest : Unit {0} → OrFault Row) (row : Row) → (first >>= rest) ≡ Ok row → (first ≡ Ok tt) × (rest tt ≡ Ok row)
both_right (Ok done) rest row e = (refl, e)
both_right (Err fault) rest row e = cc

pub keys_more : (before : List Row) (n : ℕ) (row read : Row) (keys : List (List ColId)) → All (TellsApart before) keys → check_keys before n row keys ≡ Ok read → All (TellsApart (before ++ (row ∷ []))) keys
keys_more before n row read [] all right = All-nil (TellsApart (before ++ (row ∷ [])))
keys_more before n row read (key ∷ keys) all right =
    let both = both_right (check_key before n row key) (λ checked. check_keys before n row keys) read right in
    All-cons (TellsApart (before ++ (row ∷ []))) key keys (row_more before row key (All-head (TellsApart before) key keys all) (key_new before n row key both.0))
    (keys_more before n row read keys (All-tail (TellsApart before) key keys all) both.1)

pub no_rows_apart : (rows : List Row) (keys : List (List ColId)) → rows ≡ [] → All (TellsApart rows) keys
no_rows_apart rows [] none = All-nil (TellsApart rows)
no_rows_apart rows (key ∷ keys) none =
    All-cons (TellsApart rows) key keys (λ i j low high same. let long = ap length none in absurd (omega (arith, low, long))) (no_rows_apart rows keys none)
