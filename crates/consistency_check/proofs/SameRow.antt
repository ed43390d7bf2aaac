-- What conditions and keys tell of the tuples of a row query.
use Rattle.std.proofs.Common.{◌≡◌, refl, sym, ◌∙◌, ap, subst, ℕ, zero, suc, ◌+◌, ◌<◌, ◌==◌, ◌⊎◌, inl, inr, Bool, true, false, not, ◌&&◌, ◌||◌, if◌then◌else◌, List, [], ◌∷◌, length, map, take, drop, get_or, Option, Some, None, All, arith}
use Rattle.std.specs.Prelude.{slice_get}
use Rattle.std.specs.List.{list_all, list_any}
use Rattle.std.specs.Str.{bytes_eq}
use Rattle.std.proofs.lemmas.Bool.{and_parts, eqb-true, or_cases}
use Rattle.std.proofs.lemmas.Slice.Eq.{bytes_eq-Decides}
use Rattle.vocabulary.specs.declared.ids.ColId.{ColId}
use Rattle.vocabulary.specs.declared.ids.TableId.{TableId}
use Rattle.vocabulary.specs.Lists.{In, here, there}
use Rattle.source_tables.specs.Cells.{Cell, Row}
use Rattle.source_tables.specs.Tables.{HasKeys, Loaded, TellsApart, key_cells}
use Rattle.mapping_facts.specs.declared.query.Place.{Place}
use Rattle.mapping_facts.specs.declared.query.Condition.{Condition}
use Rattle.mapping_facts.specs.declared.query.Condition.TheVariants.{Equal, EqualText, Differ, DifferText, IsNull, NotNull}
use Rattle.mapping_facts.specs.declared.query.SourceQuery.{SourceQuery}
use Rattle.mapping_facts.specs.declared.mapping.Mapping.{Mapping}
use Rattle.mapping_facts.specs.Tuples.{cell_of, rows_in, table_rows, tuple_rows}
use Rattle.mapping_facts.proofs.Members.{All-In, In-slice_get}
use Rattle.mapping_facts.proofs.Tuples.{AllHold, AreRows, CellsAt, Holds}
use Rattle.mapping_unfolding.specs.declared.draft.Origin.{Origin}
use Rattle.mapping_unfolding.specs.Unfoldings.{items_from}
use Rattle.conflict_checker.specs.declared.derivation.Step.TheVariants.{Mapped}
use Rattle.fact_derivation.specs.Finding.{origin_step, table_count}
use Rattle.consistency_check.specs.Unsatisfiable.{are_one_cell, are_one_row, at, contradicts, equates, excludes, first_place, has_key_equated, is_key_equated, is_unsatisfiable, place_same, shared_table}

-- tests of lists
any_told : {X : Type 0} (test : X → Bool) (xs : List X) → list_any test xs ≡ true → (x : X) × In x xs × (test x ≡ true)
any_told test [] e = cc
any_told test (x ∷ xs) e = elim (or_cases (test x) (list_any test xs) e) [ inl w ↦ (x, here refl, w) | inr w ↦ (let r = any_told test xs w in (r.0, there r.1, r.2)) ]

held : (c : CellsAt) (xs : List Condition) (x : Condition) → AllHold c xs → In x xs → Holds c x
held c [] x h i = elim i [ ]
held c (y ∷ xs) x h (here e) = subst (Holds c) e h.0
held c (y ∷ xs) x h (there i) = held c xs x h.1 i

-- an equality that holds
place_told : (p q : Place) → place_same p q ≡ true → p ≡ q
place_told p q e =
    let w = and_parts (p.table == q.table) (p.col.0 == q.col.0) e in
    λ i. record { table = eqb-true p.table q.table w.0 i; col = record { 0 = eqb-true p.col.0 q.col.0 w.1 i } }

equated_told : (c : CellsAt) (p r : Place) (x : Condition) → equates p r x ≡ true → Holds c x → c p ≡ c r
equated_told c p r (Equal s t) e h =
    elim (or_cases (place_same p s && place_same r t) (place_same p t && place_same r s) e) [
      | inl w ↦ (let v = and_parts (place_same p s) (place_same r t) w in ap c (place_told p s v.0) ∙ h.1 ∙ sym h.2 ∙ sym (ap c (place_told r t v.1)))
      | inr w ↦ (let v = and_parts (place_same p t) (place_same r s) w in ap c (place_told p t v.0) ∙ h.2 ∙ sym h.1 ∙ sym (ap c (place_told r s v.1)))
    ]
equated_told c p r (EqualText s text) e h = cc
equated_told c p r (Differ s t) e h = cc
equated_told c p r (DifferText s text) e h = cc
equated_told c p r (IsNull s) e h = cc
equated_told c p r (NotNull s) e h = cc

some_equated : (c : CellsAt) (p r : Place) (xs : List Condition) → list_any (equates p r) xs ≡ true → AllHold c xs → c p ≡ c r
some_equated c p r xs e h = let x = any_told (equates p r) xs e in equated_told c p r x.0 x.2 (held c xs x.0 h x.1)

-- the cells of a key
key_told : (c : CellsAt) (m n : ℕ) (xs : List Condition) (one two : Row) → ((k : ColId) → c (at m k) ≡ get_or one k.0 None) → ((k : ColId) → c (at n k) ≡ get_or two k.0 None) → AllHold c xs → (key : List ColId) → is_key_equated xs m n key ≡ true →
    key_cells key one ≡ key_cells key two
key_told c m n xs one two first second h [] e = refl
key_told c m n xs one two first second h (k ∷ key) e =
    let w = and_parts (list_any (equates (at m k) (at n k)) xs) (is_key_equated xs m n key) e in
    let cell : get_or one k.0 None ≡ get_or two k.0 None = sym (first k) ∙ some_equated c (at m k) (at n k) xs w.0 h ∙ second k in
    let cells : key_cells key one ≡ key_cells key two = key_told c m n xs one two first second h key w.1 in
    λ i. cell i ∷ cells i

-- the table of two places
some_is : {X : Type 0} (x y : X) → Some x ≡ Some y → x ≡ y
some_is x y e = cc

pub record IsShared (tables : List Loaded) (s t : Option TableId) (x : Loaded) : Type 0 where
  pub number : TableId
  pub first : s ≡ Some number
  pub second : t ≡ Some number
  pub there_is : slice_get tables number.0 ≡ Some x

shared_told : (tables : List Loaded) (s t : Option TableId) (x : Loaded) → shared_table tables s t ≡ Some x → IsShared tables s t x
shared_told tables None t x e = cc
shared_told tables (Some s) None x e = cc
shared_told tables (Some s) (Some t) x e = by (s.0 == t.0) refl e
  where
    by : (b : Bool) → (s.0 == t.0) ≡ b → (if b then slice_get tables s.0 else None) ≡ Some x → IsShared tables (Some s) (Some t) x
    by true same f = record { number = s; first = refl; second = sym (λ i. Some (record { 0 = eqb-true s.0 t.0 same i })); there_is = f }
    by false other f = cc

-- the row at a place
pub record IsRowAt (tables : List Loaded) (ts : List TableId) (rows : List ℕ) (n : ℕ) (t : TableId) : Type 0 where
  pub place : n < length rows
  pub low : get_or rows n 0 < length (table_rows tables t)
  pub row : get_or (tuple_rows tables ts rows) n [] ≡ get_or (table_rows tables t) (get_or rows n 0) []

row_at : (tables : List Loaded) (ts : List TableId) (rows : List ℕ) (n : ℕ) (t : TableId) → AreRows tables ts rows → slice_get ts n ≡ Some t → IsRowAt tables ts rows n t
row_at tables [] rows n t h e = cc
row_at tables (s ∷ ts) [] n t h e = absurd h
row_at tables (s ∷ ts) (r ∷ rows) zero t h e = subst (IsRowAt tables (s ∷ ts) (r ∷ rows) 0) (some_is s t e) (record { place = omega arith; low = h.0; row = refl })
row_at tables (s ∷ ts) (r ∷ rows) (suc n) t h e = let w = row_at tables ts rows n t h.1 e in let below = w.place in record { place = omega (arith, below); low = w.low; row = w.row }

-- conditions on one cell
text_same : (s t : List ℕ) (o p : Cell) → o ≡ p → o ≡ Some s → p ≡ Some t → s ≡ t
text_same s t o p same e f = some_is s t (sym e ∙ same ∙ f)

apart_texts : (b : Bool) (s t : List ℕ) → bytes_eq s t ≡ b → not b ≡ true → s ≡ t → ⊥
apart_texts true s t e h same = cc
apart_texts false s t e h same = let f : bytes_eq s t ≡ true = (bytes_eq-Decides s t).1 same in let g : true ≡ false = sym f ∙ e in cc

null_text : (t : List ℕ) (o p : Cell) → o ≡ p → o ≡ None → p ≡ Some t → ⊥
null_text t o p same e f = let g : None ≡ Some t = sym e ∙ same ∙ f in cc

excluded : (c : CellsAt) (x y : Condition) → excludes x y ≡ true → c (first_place x) ≡ c (first_place y) → Holds c x → Holds c y → ⊥
excluded c (EqualText p s) (EqualText r t) e same h k = apart_texts (bytes_eq s t) s t refl e (text_same s t (c p) (c r) same h k)
excluded c (EqualText p s) (DifferText r t) e same h k = k.2 (sym (text_same s k.0 (c p) (c r) same h k.1) ∙ (bytes_eq-Decides s t).0 e)
excluded c (IsNull p) (EqualText r t) e same h k = null_text t (c p) (c r) same h k
excluded c (IsNull p) (DifferText r t) e same h k = null_text k.0 (c p) (c r) same h k.1
excluded c (IsNull p) (NotNull r) e same h k = null_text k.0 (c p) (c r) same h k.1
excluded c _ _ e same h k = cc

-- one item of a list
one_from : (xs : List ℕ) (n : ℕ) → n < length xs → items_from n 1 xs ≡ get_or xs n 0 ∷ []
one_from [] n low = absurd (omega (arith, low))
one_from (x ∷ xs) zero low = refl
one_from (x ∷ xs) (suc n) low = one_from xs n (omega (arith, low))

-- over the rows of a tuple
module _ (tables : List Loaded) (keys : All HasKeys tables) (q : SourceQuery) (rows : List ℕ) (are : AreRows tables q.tables rows) (holds : AllHold (cell_of tables q.tables rows) q.conditions) where
  abbrev c : CellsAt
  c = cell_of tables q.tables rows

  abbrev row : ℕ → Row
  row n = get_or (tuple_rows tables q.tables rows) n []

  pub record IsOneRow (m n : ℕ) : Type 0 where
    pub first : m < length rows
    pub second : n < length rows
    pub numbers : get_or rows m 0 ≡ get_or rows n 0
    pub rows_are : row m ≡ row n

  of_one_table : (m n : ℕ) (x : Loaded) → IsShared tables (slice_get q.tables m) (slice_get q.tables n) x → has_key_equated q.conditions m n (Some x) ≡ true → IsOneRow m n
  of_one_table m n x s e =
      let one = row_at tables q.tables rows m s.number are s.first in
      let two = row_at tables q.tables rows n s.number are s.second in
      let k = any_told (is_key_equated q.conditions m n) x.decl.keys e in
      let in_table : table_rows tables s.number ≡ x.rows = ap rows_in s.there_is in
      let cells : key_cells k.0 (row m) ≡ key_cells k.0 (row n) = key_told c m n q.conditions (row m) (row n) (λ j. refl) (λ j. refl) holds k.0 k.2 in
      let cells_there : key_cells k.0 (get_or x.rows (get_or rows m 0) []) ≡ key_cells k.0 (get_or x.rows (get_or rows n 0) []) =
      subst (λ l. key_cells k.0 (get_or l (get_or rows m 0) []) ≡ key_cells k.0 (get_or l (get_or rows n 0) [])) in_table (sym (ap (key_cells k.0) one.row) ∙ cells ∙ ap (key_cells k.0) two.row) in
      let same : get_or rows m 0 ≡ get_or rows n 0 =
      All-In (TellsApart x.rows) x.decl.keys (All-In HasKeys tables keys (In-slice_get tables s.number.0 x s.there_is)) k.1 (get_or rows m 0) (get_or rows n 0) (subst (λ l. get_or rows m 0 < length l) in_table one.low) (subst (λ l. get_or rows n 0 < length l) in_table two.low) cells_there in
      record { first = one.place; second = two.place; numbers = same; rows_are = one.row ∙ ap (λ k. get_or (table_rows tables s.number) k []) same ∙ sym two.row }

  pub one_row : (m n : ℕ) → are_one_row tables q m n ≡ true → IsOneRow m n
  one_row m n e = by (shared_table tables (slice_get q.tables m) (slice_get q.tables n)) refl e
    where
      by : (o : Option Loaded) → shared_table tables (slice_get q.tables m) (slice_get q.tables n) ≡ o → has_key_equated q.conditions m n o ≡ true → IsOneRow m n
      by None is f = cc
      by (Some x) is f = of_one_table m n x (shared_told tables (slice_get q.tables m) (slice_get q.tables n) x is) f

  one_cell : (p r : Place) → are_one_cell tables q p r ≡ true → c p ≡ c r
  one_cell p r e =
      let w = and_parts (p.col.0 == r.col.0) ((p.table == r.table) || are_one_row tables q p.table r.table) e in
      let col : p.col.0 ≡ r.col.0 = eqb-true p.col.0 r.col.0 w.0 in
      elim (or_cases (p.table == r.table) (are_one_row tables q p.table r.table) w.1) [
        | inl v ↦ (λ i. get_or (row (eqb-true p.table r.table v i)) (col i) None)
        | inr v ↦ (let one = one_row p.table r.table v in λ i. get_or (one.rows_are i) (col i) None)
      ]

  pub satisfied : is_unsatisfiable tables q ≡ true → ⊥
  satisfied e =
      let one = any_told (λ x. list_any (contradicts tables q x) q.conditions) q.conditions e in
      let two = any_told (contradicts tables q one.0) q.conditions one.2 in
      let w = and_parts (excludes one.0 two.0) (are_one_cell tables q (first_place one.0) (first_place two.0)) two.2 in
      excluded c one.0 two.0 w.0 (one_cell (first_place one.0) (first_place two.0) w.1) (held c q.conditions one.0 holds one.1) (held c q.conditions two.0 holds two.1)

  -- one target of a mapping of one table, at one row, is one step
  pub one_step : (mappings : List Mapping) (o p : Origin) → o.mapping ≡ p.mapping → o.target ≡ p.target → table_count (slice_get mappings o.mapping) ≡ 1 → are_one_row tables q o.first p.first ≡ true → origin_step mappings rows o ≡ origin_step mappings rows p
  one_step mappings o p mapping target count one =
      let r = one_row o.first p.first one in
      let items : items_from o.first 1 rows ≡ items_from p.first 1 rows = one_from rows o.first r.first ∙ ap (λ k. k ∷ []) r.numbers ∙ sym (one_from rows p.first r.second) in
      let other : table_count (slice_get mappings p.mapping) ≡ 1 = subst (λ k. table_count (slice_get mappings k) ≡ 1) mapping count in
      (λ i. Mapped (mapping i + 1) (target i + 1) (map (λ n. n + 1) (items_from o.first (count i) rows)))
      ∙ (λ i. Mapped (p.mapping + 1) (p.target + 1) (map (λ n. n + 1) (items i)))
      ∙ sym (λ i. Mapped (p.mapping + 1) (p.target + 1) (map (λ n. n + 1) (items_from p.first (other i) rows)))
