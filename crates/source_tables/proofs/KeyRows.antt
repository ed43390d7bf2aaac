-- The keys of a row against those of the rows before it.
use Rattle.std.proofs.Common.{◌≡◌, ◌∙◌, sym, refl, ap, subst, ℕ, ◌+◌, ◌<◌, ◌≤◌, ◌||◌, Bool, true, false, not, List, [], ◌∷◌, ◌++◌, length, take, drop, get_or, map, Option, None, Some, Ok, Err, arith, append_assoc, length-append, inl, inr}
use Rattle.std.specs.List.{All, AllByRecursion, list_any, position, prefix_len}
use Rattle.std.specs.Option.{MatchOption}
use Rattle.std.specs.Str.{bytes_eq}
use Rattle.std.proofs.lemmas.Bool.{cases_lt}
use Rattle.std.proofs.lemmas.List.{get_or_past, length-map, map-append, get_or-map, take_more, drop_more, drop_all, take_all, append-nil, length-take-le, take-append-drop}
use Rattle.std.proofs.lemmas.List.Elements.{recursion_from_All}
use Rattle.std.proofs.lemmas.List.Folds.{list_any-append, list_any_at}
use Rattle.std.proofs.lemmas.List.Quantifiers.{position-Some}
use Rattle.std.proofs.Math.Seq.{get_or-append_seam, set-append_seam}
use Rattle.std.proofs.Math.ListN.{set}
use Rattle.vocabulary.specs.declared.ids.ColId.{ColId}
use Rattle.vocabulary.specs.Texts.{Numbers, number_of}
use Rattle.source_tables.specs.declared.fault.TableFault.{TableFault}
use Rattle.source_tables.specs.declared.fault.TableFault.TheVariants.{DoubleKey}
use Rattle.source_tables.specs.Cells.{Cell, Row, HasText, is_null}
use Rattle.source_tables.specs.Tables.{cells_same, check_key, check_keys, double_or, key_cells, OrFault, ◌>>=◌}
use Rattle.source_tables.specs.Loading.{key_text, key_texts, IsKeyText}
use Rattle.source_tables.proofs.Keys.{AreTexts, same_by_text}

-- the text of a key, cell by cell
key_text-more : (cells : List Cell) (text : List ℕ) → key_text (cells ++ (Some text ∷ [])) ≡ key_text cells ++ (text ++ (0 ∷ []))
key_text-more [] text = refl
key_text-more (None ∷ cells) text = ap (λ (t : List ℕ). 0 ∷ t) (key_text-more cells text)
key_text-more (Some cell ∷ cells) text =
    ap (λ (t : List ℕ). cell ++ (0 ∷ t)) (key_text-more cells text) ∙ sym (append_assoc cell (0 ∷ key_text cells) (text ++ (0 ∷ [])))

key_cells-more : (key : List ColId) (row : Row) (i : ℕ) (d : ColId) → i < length key
    → key_cells (take (i + 1) key) row ≡ key_cells (take i key) row ++ (get_or row (get_or key i d).0 None ∷ [])
key_cells-more key row i d less =
    ap (λ (k : List ColId). key_cells k row) (take_more key i d less) ∙ map-append (λ (c : ColId). get_or row c.0 None) (take i key) (get_or key i d ∷ [])

pub one_cell : (key : List ColId) (row : Row) (i : ℕ) (d : ColId) (old cell new : List ℕ) → i < length key → Some cell ≡ get_or row (get_or key i d).0 None
    → new ≡ (old ++ cell) ++ (0 ∷ []) → IsKeyText true (key_cells (take i key) row) old → IsKeyText true (key_cells (take (i + 1) key) row) new
one_cell key row i d old cell new less is e so_far =
    let cells : key_cells (take (i + 1) key) row ≡ key_cells (take i key) row ++ (Some cell ∷ []) =
    key_cells-more key row i d less ∙ ap (λ (c : Cell). key_cells (take i key) row ++ (c ∷ [])) (sym is) in
    subst (λ (cs : List Cell). IsKeyText true cs new) (sym cells) (
      list_any-append is_null (key_cells (take i key) row) (Some cell ∷ []) ∙ ap (λ b. b || false) so_far.0,
      λ whole. e ∙ append_assoc old cell (0 ∷ []) ∙ ap (λ (t : List ℕ). t ++ (cell ++ (0 ∷ []))) (so_far.1 refl) ∙ sym (key_text-more (key_cells (take i key) row) cell),
    )

pub null_there : (key : List ColId) (row : Row) (i : ℕ) (d : ColId) (text : List ℕ) → i < length key → None ≡ get_or row (get_or key i d).0 None
    → IsKeyText false (key_cells key row) text
null_there key row i d text less is =
    let there = list_any_at is_null (key_cells key row) i None (omega (arith, length-map key (λ (c : ColId). get_or row c.0 None)))
    (ap is_null (get_or-map (λ (c : ColId). get_or row c.0 None) key i d None less ∙ sym is)) in
    (there, λ whole. cc)

-- cells of a row of texts are texts
cell_text : (row : Row) (c : ℕ) → All HasText row → HasText (get_or row c None)
cell_text row c all = elim (cases_lt c (length row)) [
  | inl less ↦ all c None less
  | inr past ↦ subst HasText (sym (get_or_past row c None past)) tt
]

pub are_texts : (key : List ColId) (row : Row) → All HasText row → AreTexts (key_cells key row)
are_texts [] row all = tt
are_texts (c ∷ key) row all = (cell_text row c.0 all, are_texts key row all)

key_long : (key : List ColId) (a b : Row) → length (key_cells key a) ≡ length (key_cells key b)
key_long key a b = length-map key (λ (c : ColId). get_or a c.0 None) ∙ sym (length-map key (λ (c : ColId). get_or b c.0 None))

same_prefix : (key : List ColId) (row : Row) (before : List Row) → All HasText row → AllByRecursion (All HasText) before
    → prefix_len (λ earlier. not (cells_same (key_cells key earlier) (key_cells key row))) before
    ≡ prefix_len (λ text. not (bytes_eq (key_text (key_cells key row)) text)) (key_texts key before)
same_prefix key row [] all texts = refl
same_prefix key row (r ∷ rs) all texts =
    let e = same_by_text (key_cells key r) (key_cells key row) (are_texts key r texts.0) (are_texts key row all) (key_long key r row) in
    rw (e, same_prefix key row rs all texts.1) refl

pub same_position : (key : List ColId) (row : Row) (before : List Row) → All HasText row → All (All HasText) before
    → position (λ earlier. cells_same (key_cells key earlier) (key_cells key row)) before ≡ number_of (key_texts key before) (key_text (key_cells key row))
same_position key row before all texts =
    rw (same_prefix key row before all (recursion_from_All (All HasText) before texts), ← length-map before (λ (r : Row). key_text (key_cells key r))) refl

-- what the number of a key's text says of its row
key_found : (key : List ColId) (n : ℕ) (row : Row) (before : List Row) (o : Option ℕ) → list_any is_null (key_cells key row) ≡ false
    → position (λ earlier. cells_same (key_cells key earlier) (key_cells key row)) before ≡ o → check_key before n row key ≡ double_or o n
key_found key n row before o whole e = rw (whole, e) refl

record IsNumber (old new : List (List ℕ)) (text : List ℕ) (number : ℕ) (o : Option ℕ) : Type 0 where
  found : number_of old text ≡ o
  numbers : MatchOption o ((number ≡ length old) × (new ≡ old ++ (text ∷ []))) (λ i. (number ≡ i) × (new ≡ old))

new_text : (old new : List (List ℕ)) (text : List ℕ) (number : ℕ) (o : Option ℕ) → IsNumber old new text number o → length old ≤ number
    → (o ≡ None) × (new ≡ old ++ (text ∷ []))
new_text old new text number None is past = (refl, is.numbers.1)
new_text old new text number (Some i) is past =
    let there = position-Some (bytes_eq text) old i [] is.found in
    absurd (omega (arith, there.0, is.numbers.0))

old_text : (old new : List (List ℕ)) (text : List ℕ) (number : ℕ) (o : Option ℕ) → IsNumber old new text number o → number < length old → o ≡ Some number
old_text old new text number None is less = absurd (omega (arith, is.numbers.0))
old_text old new text number (Some i) is less = ap (λ (k : ℕ). Some k) (sym is.numbers.0)

of_numbers : (old new : List (List ℕ)) (text : List ℕ) (number : ℕ) → Numbers old new text number → IsNumber old new text number (number_of old text)
of_numbers old new text number is = record { found = refl; numbers = is }

key_texts_long : (key : List ColId) (before : List Row) → length (key_texts key before) ≡ length before
key_texts_long key before = length-map before (λ (r : Row). key_text (key_cells key r))

pub key_new : (key : List ColId) (n : ℕ) (row : Row) (before : List Row) (old new : List (List ℕ)) (text : List ℕ) (number : ℕ) → All HasText row → All (All HasText) before
    → IsKeyText true (key_cells key row) text → old ≡ key_texts key before → Numbers old new text number → length before ≤ number
    → (check_key before n row key ≡ Ok tt) × (new ≡ key_texts key (before ++ (row ∷ [])))
key_new key n row before old new text number all texts whole e is past =
    let found = new_text old new text number (number_of old text) (of_numbers old new text number is) (omega (arith, ap length e, key_texts_long key before)) in
    let place : position (λ earlier. cells_same (key_cells key earlier) (key_cells key row)) before ≡ None =
    same_position key row before all texts ∙ ap (λ (t : List ℕ). number_of (key_texts key before) t) (sym (whole.1 refl)) ∙ ap (λ (ts : List (List ℕ)). number_of ts text) (sym e) ∙ found.0 in (
      key_found key n row before None whole.0 place,
      found.1 ∙ ap (λ (ts : List (List ℕ)). ts ++ (text ∷ [])) e ∙ ap (λ (t : List ℕ). key_texts key before ++ (t ∷ [])) (whole.1 refl)
          ∙ sym (map-append (λ (r : Row). key_text (key_cells key r)) before (row ∷ [])),
    )

pub key_double : (key : List ColId) (n : ℕ) (row : Row) (before : List Row) (old new : List (List ℕ)) (text : List ℕ) (number : ℕ) → All HasText row → All (All HasText) before
    → IsKeyText true (key_cells key row) text → old ≡ key_texts key before → Numbers old new text number → number < length before
    → check_key before n row key ≡ Err (DoubleKey (number + 1) n)
key_double key n row before old new text number all texts whole e is less =
    let found = old_text old new text number (number_of old text) (of_numbers old new text number is) (omega (arith, ap length e, key_texts_long key before)) in
    let place : position (λ earlier. cells_same (key_cells key earlier) (key_cells key row)) before ≡ Some number =
    same_position key row before all texts ∙ ap (λ (t : List ℕ). number_of (key_texts key before) t) (sym (whole.1 refl)) ∙ ap (λ (ts : List (List ℕ)). number_of ts text) (sym e) ∙ found in
    key_found key n row before (Some number) whole.0 place

pub index_long : (key : List ColId) (before : List Row) (old : List (List ℕ)) → old ≡ key_texts key before → length old ≡ length before
index_long key before old e = ap length e ∙ key_texts_long key before

-- the indexes of the first i keys have the row, and those of the others not yet
pub record Numbered (keys : List (List ColId)) (before : List Row) (n : ℕ) (row : Row) (i : ℕ) (indexes : List (List (List ℕ))) : Type 0 where
  pub are : indexes ≡ map (λ key. key_texts key (before ++ (row ∷ []))) (take i keys) ++ map (λ key. key_texts key before) (drop i keys)
  pub rest : check_keys before n row (drop i keys) ≡ check_keys before n row keys

pub numbered_none : (keys : List (List ColId)) (before : List Row) (n : ℕ) (row : Row) (indexes : List (List (List ℕ)))
    → indexes ≡ map (λ key. key_texts key before) keys → Numbered keys before n row 0 indexes
numbered_none keys before n row indexes e = record { are = e; rest = refl }

front_long : (keys : List (List ColId)) (rows : List Row) (i : ℕ) → i ≤ length keys → length (map (λ key. key_texts key rows) (take i keys)) ≡ i
front_long keys rows i less = length-map (take i keys) (λ (key : List ColId). key_texts key rows) ∙ length-take-le i keys less

pub index_at : (keys : List (List ColId)) (before : List Row) (n : ℕ) (row : Row) (i : ℕ) (indexes : List (List (List ℕ))) (key : List ColId)
    → Numbered keys before n row i indexes → i < length keys → key ≡ get_or keys i key → (d : List (List ℕ)) → get_or indexes i d ≡ key_texts key before
index_at keys before n row i indexes key so_far less is d =
    let front = map (λ k. key_texts k (before ++ (row ∷ []))) (take i keys) in
    let long : length front ≡ i = front_long keys (before ++ (row ∷ [])) i (omega arith) in
    ap (λ (xs : List (List (List ℕ))). get_or xs i d) so_far.are
    ∙ ap (λ (ks : List (List ColId)). get_or (front ++ map (λ k. key_texts k before) ks) i d) (drop_more keys i key less)
    ∙ ap (λ (j : ℕ). get_or (front ++ (key_texts (get_or keys i key) before ∷ map (λ k. key_texts k before) (drop (i + 1) keys))) j d) (sym long)
    ∙ get_or-append_seam front (key_texts (get_or keys i key) before) (map (λ k. key_texts k before) (drop (i + 1) keys)) d
    ∙ ap (λ (k : List ColId). key_texts k before) (sym is)

pub indexes_long : (keys : List (List ColId)) (before : List Row) (n : ℕ) (row : Row) (i : ℕ) (indexes : List (List (List ℕ)))
    → Numbered keys before n row i indexes → length indexes ≡ length keys
indexes_long keys before n row i indexes so_far =
    ap length so_far.are ∙ length-append (map (λ key. key_texts key (before ++ (row ∷ []))) (take i keys)) (map (λ key. key_texts key before) (drop i keys))
    ∙ ap (λ (k : ℕ). k + length (map (λ key. key_texts key before) (drop i keys))) (length-map (take i keys) (λ (key : List ColId). key_texts key (before ++ (row ∷ []))))
    ∙ ap (λ (k : ℕ). length (take i keys) + k) (length-map (drop i keys) (λ (key : List ColId). key_texts key before))
    ∙ sym (length-append (take i keys) (drop i keys)) ∙ ap length (take-append-drop i keys)

after_first : (keys : List (List ColId)) (before : List Row) (n : ℕ) (row : Row) (key : List ColId) → check_key before n row key ≡ Ok tt
    → check_keys before n row (key ∷ keys) ≡ check_keys before n row keys
after_first keys before n row key ok = ap (λ (r : OrFault (Unit {0})). r >>= (λ checked. check_keys before n row keys)) ok

first_fails : (keys : List (List ColId)) (before : List Row) (n : ℕ) (row : Row) (key : List ColId) (e : TableFault) → check_key before n row key ≡ Err e
    → check_keys before n row (key ∷ keys) ≡ Err e
first_fails keys before n row key e fails = ap (λ (r : OrFault (Unit {0})). r >>= (λ checked. check_keys before n row keys)) fails

pub numbered_more : (keys : List (List ColId)) (before : List Row) (n : ℕ) (row : Row) (i : ℕ) (indexes : List (List (List ℕ))) (key : List ColId) (index : List (List ℕ))
    → Numbered keys before n row i indexes → i < length keys → key ≡ get_or keys i key
    → check_key before n row key ≡ Ok tt → index ≡ key_texts key (before ++ (row ∷ []))
    → Numbered keys before n row (i + 1) (set indexes i index)
numbered_more keys before n row i indexes key index so_far less is ok e =
    let front = map (λ k. key_texts k (before ++ (row ∷ []))) (take i keys) in
    let back = map (λ k. key_texts k before) (drop (i + 1) keys) in
    let long : length front ≡ i = front_long keys (before ++ (row ∷ [])) i (omega arith) in
    let one : take (i + 1) keys ≡ take i keys ++ (key ∷ []) = take_more keys i key less ∙ ap (λ (k : List ColId). take i keys ++ (k ∷ [])) (sym is) in
    let left : drop i keys ≡ key ∷ drop (i + 1) keys = drop_more keys i key less ∙ ap (λ (k : List ColId). k ∷ drop (i + 1) keys) (sym is) in
    record {
      are = ap (λ (xs : List (List (List ℕ))). set xs i index) so_far.are
          ∙ ap (λ (ks : List (List ColId)). set (front ++ map (λ k. key_texts k before) ks) i index) left
          ∙ ap (λ (j : ℕ). set (front ++ (key_texts key before ∷ back)) j index) (sym long)
          ∙ set-append_seam front (key_texts key before) back index
          ∙ ap (λ (x : List (List ℕ)). front ++ (x ∷ back)) e
          ∙ sym (append_assoc front (key_texts key (before ++ (row ∷ [])) ∷ []) back)
          ∙ ap (λ (xs : List (List (List ℕ))). xs ++ back) (sym (map-append (λ (k : List ColId). key_texts k (before ++ (row ∷ []))) (take i keys) (key ∷ [])) ∙ ap (λ (ks : List (List ColId)). map (λ k. key_texts k (before ++ (row ∷ []))) ks) (sym one));
      rest = sym (after_first (drop (i + 1) keys) before n row key ok) ∙ ap (λ (ks : List (List ColId)). check_keys before n row ks) (sym left) ∙ so_far.rest;
    }

pub number_fails : (keys : List (List ColId)) (before : List Row) (n : ℕ) (row : Row) (i : ℕ) (indexes : List (List (List ℕ))) (key : List ColId) (e : TableFault)
    → Numbered keys before n row i indexes → i < length keys → key ≡ get_or keys i key → check_key before n row key ≡ Err e → check_keys before n row keys ≡ Err e
number_fails keys before n row i indexes key e so_far less is fails =
    let left : drop i keys ≡ key ∷ drop (i + 1) keys = drop_more keys i key less ∙ ap (λ (k : List ColId). k ∷ drop (i + 1) keys) (sym is) in
    sym so_far.rest ∙ ap (λ (ks : List (List ColId)). check_keys before n row ks) left ∙ first_fails (drop (i + 1) keys) before n row key e fails

pub all_numbered : (keys : List (List ColId)) (before : List Row) (n : ℕ) (row : Row) (i : ℕ) (indexes : List (List (List ℕ)))
    → Numbered keys before n row i indexes → length keys ≤ i
    → (check_keys before n row keys ≡ Ok row) × (indexes ≡ map (λ key. key_texts key (before ++ (row ∷ []))) keys)
all_numbered keys before n row i indexes so_far past = (
  sym so_far.rest ∙ ap (λ (ks : List (List ColId)). check_keys before n row ks) (drop_all i keys past),
  so_far.are
      ∙ ap (λ (ks : List (List ColId)). map (λ key. key_texts key (before ++ (row ∷ []))) (take i keys) ++ map (λ key. key_texts key before) ks) (drop_all i keys past)
      ∙ append-nil (map (λ key. key_texts key (before ++ (row ∷ []))) (take i keys))
      ∙ ap (λ (ks : List (List ColId)). map (λ key. key_texts key (before ++ (row ∷ []))) ks) (take_all i keys past),
)

pub text_whole : (b : Bool) (cells : List Cell) (text text' : List ℕ) → IsKeyText b cells text → b ≡ true → text' ≡ text → IsKeyText true cells text'
text_whole b cells text text' is whole e =
    subst (λ (t : List ℕ). IsKeyText true cells t) (sym e) (subst (λ (x : Bool). IsKeyText x cells text) whole is)
