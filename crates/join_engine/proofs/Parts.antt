-- Rows of the first tables that stand for all others there, where nothing joins these tables to those behind them.
use Rattle.std.proofs.Common.{◌≡◌, ◌∙◌, sym, refl, ap, subst, ◌⊎◌, inl, inr, ◌+◌, ◌-◌, ◌<◌, ◌≤◌, ◌==◌, max, Bool, true, false, not, ◌&&◌, ◌||◌, ℕ, zero, suc, List, [], ◌∷◌, ◌++◌, length, filter, take, drop, get_or, arith, All, eq-eqb}
use Rattle.std.specs.Prelude.{is_some, nat_lt}
use Rattle.std.specs.List.{list_all, list_any, range_with_len}
use Rattle.std.proofs.lemmas.Bool.{and_parts, le-ltb}
use borrow.Author.Tests.{ltb-true, ltb-false}
use Rattle.std.proofs.lemmas.List.{get_or-append-add, get_or-drop, length_push, take-append-drop, take_more}
use Rattle.vocabulary.specs.declared.ids.TableId.{TableId}
use Rattle.vocabulary.specs.Lists.{In, here, there}
use Rattle.source_tables.specs.Tables.{Loaded}
use Rattle.mapping_facts.specs.declared.query.Condition.{Condition}
use Rattle.mapping_facts.specs.declared.query.Condition.TheVariants.{Equal, EqualText, Differ, DifferText, IsNull, NotNull}
use Rattle.mapping_facts.specs.declared.query.Place.{Place}
use Rattle.mapping_facts.specs.declared.query.RowQuery.{RowQuery}
use Rattle.mapping_facts.specs.declared.query.SourceQuery.{SourceQuery}
use Rattle.mapping_facts.specs.declared.term.RowTerm.{RowTerm}
use Rattle.mapping_facts.specs.Fits.{ConditionFits, RowQueryFits, TermFits}
use Rattle.mapping_facts.specs.Facts.{term_at}
use Rattle.mapping_facts.specs.RowQueries.{are_apart, is_asked, is_defined, row_tuples, texts_differ}
use Rattle.mapping_facts.specs.Tuples.{cell_of, condition_holds, table_rows}
use Rattle.mapping_facts.proofs.Members.{All-In, from_filter, in_range}
use Rattle.mapping_facts.proofs.Tuples.{AreRows, in_all_tuples}
use Rattle.table_renumbering.specs.Places.{condition_places, term_places}
use Rattle.table_renumbering.proofs.Cells.{condition_fits, condition_same, term_fits, term_same}
use Rattle.table_renumbering.proofs.Numbers.{cell_same, rows_count}
use Rattle.join_engine.specs.Fronts.{asked_behind, is_cut, reach}
use Rattle.join_engine.specs.Heads.{IsFree, IsFrontBehind, IsSettled, Stands, are_behind, is_on_one_side, is_pair_behind, is_part, is_term_behind}
use Rattle.join_engine.specs.Ties.{Covers, rows_at}
use Rattle.join_engine.proofs.Fronts.{by_tried, cut, front_holds}
use Rattle.join_engine.proofs.Rows.{Asked, asked_rows, asked_says, front_behind, rows_asked, rows_beside, rows_drop, says_asked}

-- tests of all members
pub all_in : {X : Type 0} (test : X → Bool) (xs : List X) → list_all test xs ≡ true → (x : X) → In x xs → test x ≡ true
all_in test [] e x m = elim m [ ]
all_in test (y ∷ ys) e x (here q) = let p = and_parts (test y) (list_all test ys) e in ap test (sym q) ∙ p.0
all_in test (y ∷ ys) e x (there m) = let p = and_parts (test y) (list_all test ys) e in all_in test ys p.1 x m

all_of : {X : Type 0} (test : X → Bool) (xs : List X) → ((x : X) → In x xs → test x ≡ true) → list_all test xs ≡ true
all_of test [] h = refl
all_of test (x ∷ xs) h = rw (h x (here refl)) (all_of test xs (λ y m. h y (there m)))

pub no_members : {X : Type 0} (xs : List X) → ((x : X) → In x xs → ⊥) → xs ≡ []
no_members [] h = refl
no_members (x ∷ xs) h = absurd (h x (here refl))

not_true : (b : Bool) → not b ≡ true → b ≡ false
not_true true e = cc
not_true false e = refl

places_behind : (b : ℕ) (ps : List Place) → are_behind b ps ≡ true → (p : Place) → In p ps → b ≤ p.table
places_behind b ps e p m = ltb-false p.table b (not_true (nat_lt p.table b) (all_in (λ p. not (nat_lt p.table b)) ps e p m))

-- a tuple whose first numbers are others is the same behind them
seam : (front t : List ℕ) (k : ℕ) → length front ≤ k → get_or (front ++ drop (length front) t) k 0 ≡ get_or t k 0
seam front t k h =
    let e : length front + (k - length front) ≡ k = omega (arith, h) in
    subst (λ z. get_or (front ++ drop (length front) t) z 0 ≡ get_or t z 0) e
    (get_or-append-add front (drop (length front) t) (k - length front) 0 ∙ get_or-drop (length front) t (k - length front) 0)

-- free rows
pub front_rows : (tables : List Loaded) (q : RowQuery) (front : List ℕ) → IsFree tables q front → AreRows tables (take (length front) q.query.tables) front
front_rows tables q front free = (in_all_tuples tables (take (length front) q.query.tables) front).0 free.stands.rows

pub behind_free : (tables : List Loaded) (q : RowQuery) (front t : List ℕ) → IsFree tables q front → In t (row_tuples tables q) → In (front ++ drop (length front) t) (asked_behind tables q front)
behind_free tables q front t free m =
    front_behind tables q front (drop (length front) t) (rows_drop tables (length front) q.query.tables t (asked_rows tables q t m).0) (asked_rows tables q (front ++ drop (length front) t) (free.tuples t m)).1

pub free_gets : (tables : List Loaded) (q : RowQuery) (front t : List ℕ) → IsFree tables q front → (r : RowTerm) → In r q.head → (p : Place) → In p (term_places r) → get_or (front ++ drop (length front) t) p.table 0 ≡ get_or t p.table 0
free_gets tables q front t free r m p k = seam front t p.table (places_behind (length front) (term_places r) (all_in (is_term_behind (length front)) q.head free.head r m) p k)

pub none_free : (tables : List Loaded) (q : RowQuery) (front : List ℕ) → IsFree tables q front → asked_behind tables q front ≡ [] → row_tuples tables q ≡ []
none_free tables q front free none =
    no_members (row_tuples tables q) (λ t m. (let k : In (front ++ drop (length front) t) [] = subst (In (front ++ drop (length front) t)) none (behind_free tables q front t free m) in elim k [ ]))

-- rows that are not cut
or_none : (a b : Bool) → (a || b) ≡ false → (a ≡ false) × (b ≡ false)
or_none true b e = cc
or_none false b e = (refl, e)

none_in : (test : Condition → Bool) (c : Condition) (cs : List Condition) → list_any test cs ≡ false → In c cs → test c ≡ false
none_in test c [] e m = elim m [ ]
none_in test c (x ∷ cs) e (here q) = ap test (sym q) ∙ (or_none (test x) (list_any test cs) e).0
none_in test c (x ∷ cs) e (there m) = none_in test c cs (or_none (test x) (list_any test cs) e).1 m

and_none : (a b : Bool) → a ≡ true → (a && not b) ≡ false → b ≡ true
and_none true true e f = refl
and_none true false e f = cc
and_none false b e f = cc

uncut : (tables : List Loaded) (q : SourceQuery) (front : List ℕ) → is_cut tables q front ≡ false → (c : Condition) → In c q.conditions → reach c ≡ length front → condition_holds (cell_of tables q.tables front) c ≡ true
uncut tables q front e c m same =
    and_none (reach c == length front) (condition_holds (cell_of tables q.tables front) c) (eq-eqb (reach c) (length front) same)
    (none_in (λ c. (reach c == length front) && not (condition_holds (cell_of tables q.tables front) c)) c q.conditions e m)

before_or : (n m : ℕ) → n < m + 1 → (n < m) ⊎ (n ≡ m)
before_or n m h = grind arith

pub stands_more : (tables : List Loaded) (q : SourceQuery) (front items : List ℕ) → Stands tables q (length front) front → items ≡ front → false ≡ is_cut tables q items → Stands tables q (length front + 1) front
stands_more tables q front items stands same e = record {
  rows = stands.rows;
  hold = λ c m l. elim (before_or (reach c) (length front) l) [
    | inl k ↦ stands.hold c m k
    | inr k ↦ uncut tables q front (ap (is_cut tables q) (sym same) ∙ sym e) c m k
  ];
}

in_at : (xs : List ℕ) (k : ℕ) → k < length xs → In (get_or xs k 0) xs
in_at [] k h = absurd (omega (arith, h))
in_at (x ∷ xs) zero h = here refl
in_at (x ∷ xs) (suc k) h = there (in_at xs k (omega (arith, h)))

row_low : (tables : List Loaded) (q : SourceQuery) (front rows : List ℕ) (k : ℕ) → Covers tables q front rows → k < length rows → get_or rows k 0 < length (rows_at tables q (length front))
row_low tables q front rows k covers h =
    let all : List ℕ = range_with_len 0 (length (rows_at tables q (length front))) in
    let m = from_filter covers.keep (get_or rows k 0) all (subst (In (get_or rows k 0)) covers.are (in_at rows k h)) in
    let l = (in_range 0 (length (rows_at tables q (length front))) (get_or rows k 0) m.0).1 in
    omega (arith, l)

stands_push : (tables : List Loaded) (q : SourceQuery) (front : List ℕ) (i : ℕ) → Stands tables q (length front + 1) front → length front < length q.tables → i < length (rows_at tables q (length front)) →
    Stands tables q (length (front ++ (i ∷ []))) (front ++ (i ∷ []))
stands_push tables q front i stands h low =
    let len : length (front ++ (i ∷ [])) ≡ length front + 1 = length_push front i in
    let first : TableId = record { 0 = 0 } in
    record {
      rows =
          (in_all_tuples tables (take (length (front ++ (i ∷ []))) q.tables) (front ++ (i ∷ []))).1
          (subst (λ ts. AreRows tables ts (front ++ (i ∷ []))) (sym (ap (λ n. take n q.tables) len ∙ take_more q.tables (length front) first h))
          (rows_beside tables (take (length front) q.tables) (get_or q.tables (length front) first ∷ []) front (i ∷ []) ((in_all_tuples tables (take (length front) q.tables) front).0 stands.rows) (low, tt)));
      hold = λ c m l. front_holds tables q.tables front (i ∷ []) c (omega (arith, l, len)) ∙ stands.hold c m (omega (arith, l, len));
    }

pub stands_next : (tables : List Loaded) (q : SourceQuery) (front rows pushed : List ℕ) (k : ℕ) → Stands tables q (length front + 1) front → length front < length q.tables → Covers tables q front rows → k < length rows → pushed ≡ front ++ (get_or rows k 0 ∷ []) →
    Stands tables q (length pushed) pushed
stands_next tables q front rows pushed k stands h covers low same =
    subst (λ z. Stands tables q (length z) z) (sym same) (stands_push tables q front (get_or rows k 0) stands h (row_low tables q front rows k covers low))

-- rows of a part are free
free_cell : (tables : List Loaded) (q : RowQuery) (front t : List ℕ) (p : Place) → length (front ++ drop (length front) t) ≡ length q.query.tables → length t ≡ length q.query.tables → length front ≤ p.table → p.table < length q.query.tables →
    cell_of tables q.query.tables (front ++ drop (length front) t) p ≡ cell_of tables q.query.tables t p
free_cell tables q front t p lo lt h k = cell_same tables q.query.tables q.query.tables (front ++ drop (length front) t) t p p lo lt k k refl (seam front t p.table h) refl

or_parts : (a b : Bool) → (a || b) ≡ true → (a ≡ true) ⊎ (b ≡ true)
or_parts true b e = inl refl
or_parts false b e = inr e

free_condition : (tables : List Loaded) (q : RowQuery) (front t : List ℕ) (c : Condition) → ConditionFits (length q.query.tables) c → length (front ++ drop (length front) t) ≡ length q.query.tables → length t ≡ length q.query.tables →
    Stands tables q.query (length front + 1) front → In c q.query.conditions → is_on_one_side (length front) c ≡ true → condition_holds (cell_of tables q.query.tables t) c ≡ true →
    condition_holds (cell_of tables q.query.tables (front ++ drop (length front) t)) c ≡ true
free_condition tables q front t c fits lo lt stands m side e = elim (or_parts (nat_lt (reach c) (length front + 1)) (are_behind (length front) (condition_places c)) side) [
  | inl k ↦ (let l = ltb-true (reach c) (length front + 1) k in front_holds tables q.query.tables front (drop (length front) t) c (omega (arith, l)) ∙ stands.hold c m l)
  | inr k ↦ (
      condition_same (cell_of tables q.query.tables (front ++ drop (length front) t)) (cell_of tables q.query.tables t) c
      (λ p n. free_cell tables q front t p lo lt (places_behind (length front) (condition_places c) k p n) (condition_fits (length q.query.tables) c fits p n))
      ∙ e
      )
]

free_term : (tables : List Loaded) (q : RowQuery) (front t : List ℕ) (r : RowTerm) → TermFits (length q.query.tables) r → length (front ++ drop (length front) t) ≡ length q.query.tables → length t ≡ length q.query.tables →
    is_term_behind (length front) r ≡ true → term_at (cell_of tables q.query.tables (front ++ drop (length front) t)) r ≡ term_at (cell_of tables q.query.tables t) r
free_term tables q front t r fits lo lt side =
    term_same (cell_of tables q.query.tables (front ++ drop (length front) t)) (cell_of tables q.query.tables t) r
    (λ p n. free_cell tables q front t p lo lt (places_behind (length front) (term_places r) side p n) (term_fits (length q.query.tables) r fits p n))

free_tuple : (tables : List Loaded) (q : RowQuery) (front : List ℕ) → RowQueryFits q → is_part (length front) q ≡ true → Stands tables q.query (length front + 1) front → (t : List ℕ) → In t (row_tuples tables q) →
    In (front ++ drop (length front) t) (row_tuples tables q)
free_tuple tables q front fits part stands t m =
    let n = length q.query.tables in
    let a = asked_rows tables q t m in
    let says = asked_says tables q t a.1 in
    let rows : AreRows tables q.query.tables (front ++ drop (length front) t) =
    subst (λ ts. AreRows tables ts (front ++ drop (length front) t)) (take-append-drop (length front) q.query.tables)
    (rows_beside tables (take (length front) q.query.tables) (drop (length front) q.query.tables) front (drop (length front) t)
    ((in_all_tuples tables (take (length front) q.query.tables) front).0 stands.rows) (rows_drop tables (length front) q.query.tables t a.0)) in
    let lo = rows_count tables q.query.tables (front ++ drop (length front) t) rows in
    let lt = rows_count tables q.query.tables t a.0 in
    let parts = and_parts (list_all (is_on_one_side (length front)) q.query.conditions && list_all (is_term_behind (length front)) q.head) (list_all (is_pair_behind (length front)) q.apart) part in
    let two = and_parts (list_all (is_on_one_side (length front)) q.query.conditions) (list_all (is_term_behind (length front)) q.head) parts.0 in
    rows_asked tables q (front ++ drop (length front) t) rows
    (says_asked tables q (front ++ drop (length front) t) (record {
      conditions = all_of (condition_holds (cell_of tables q.query.tables (front ++ drop (length front) t))) q.query.conditions
          (λ c k. free_condition tables q front t c (All-In (ConditionFits n) q.query.conditions fits.query k) lo lt stands k (all_in (is_on_one_side (length front)) q.query.conditions two.0 c k)
          (all_in (condition_holds (cell_of tables q.query.tables t)) q.query.conditions says.conditions c k));
      head = all_of (is_defined (cell_of tables q.query.tables (front ++ drop (length front) t))) q.head
          (λ r k. ap is_some (free_term tables q front t r (All-In (TermFits n) q.head fits.head k) lo lt (all_in (is_term_behind (length front)) q.head two.1 r k))
          ∙ all_in (is_defined (cell_of tables q.query.tables t)) q.head says.head r k);
      apart = all_of (are_apart (cell_of tables q.query.tables (front ++ drop (length front) t))) q.apart
          (λ x k. free_pair x (All-In (λ x. TermFits n x.0 × TermFits n x.1) q.apart fits.apart k) lo lt (all_in (is_pair_behind (length front)) q.apart parts.1 x k)
          ∙ all_in (are_apart (cell_of tables q.query.tables t)) q.apart says.apart x k);
    }))
  where
    free_pair : (x : RowTerm × RowTerm) → TermFits (length q.query.tables) x.0 × TermFits (length q.query.tables) x.1 → length (front ++ drop (length front) t) ≡ length q.query.tables → length t ≡ length q.query.tables → is_pair_behind (length front) x ≡ true →
        are_apart (cell_of tables q.query.tables (front ++ drop (length front) t)) x ≡ are_apart (cell_of tables q.query.tables t) x
    free_pair x f lo lt side =
        let b = and_parts (is_term_behind (length front) x.0) (is_term_behind (length front) x.1) side in
        λ i. texts_differ (free_term tables q front t x.0 f.0 lo lt b.0 i) (free_term tables q front t x.1 f.1 lo lt b.1 i)

pub free_part : (tables : List Loaded) (q : RowQuery) (end : ℕ) (front : List ℕ) → RowQueryFits q → is_part end q ≡ true → end ≤ length q.query.tables → length front ≡ end → Stands tables q.query (end + 1) front → IsFree tables q front
free_part tables q end front fits part most len stands =
    let here_part : is_part (length front) q ≡ true = ap (λ n. is_part n q) len ∙ part in
    let here_stands : Stands tables q.query (length front + 1) front = subst (λ n. Stands tables q.query (n + 1) front) (sym len) stands in
    let parts = and_parts (list_all (is_on_one_side (length front)) q.query.conditions && list_all (is_term_behind (length front)) q.head) (list_all (is_pair_behind (length front)) q.apart) here_part in
    record {
      within = omega (arith, len, most);
      stands = here_stands;
      tuples = free_tuple tables q front fits here_part here_stands;
      head = (and_parts (list_all (is_on_one_side (length front)) q.query.conditions) (list_all (is_term_behind (length front)) q.head) parts.0).1;
    }

-- no rows are free
no_reach : (c : Condition) → reach c < 1 → ⊥
no_reach (Equal p q) h = omega (arith, h)
no_reach (EqualText p text) h = omega (arith, h)
no_reach (Differ p q) h = omega (arith, h)
no_reach (DifferText p text) h = omega (arith, h)
no_reach (IsNull p) h = omega (arith, h)
no_reach (NotNull p) h = omega (arith, h)

free_none : (tables : List Loaded) (q : RowQuery) → IsFree tables q []
free_none tables q = record {
  within = omega arith;
  stands = record { rows = here refl; hold = λ c m l. absurd (no_reach c (omega (arith, l))) };
  tuples = λ t m. m;
  head = all_of (is_term_behind 0) q.head (λ r m. all_of (λ p. not (nat_lt p.table 0)) (term_places r) (λ p k. ap not (le-ltb p.table 0 (omega arith))));
}

pub free_start : (tables : List Loaded) (q : RowQuery) (front : List ℕ) → length front ≡ 0 → IsFree tables q front
free_start tables q [] e = free_none tables q
free_start tables q (i ∷ front) e = absurd (omega (arith, e))

-- the step from one part to the next
pub stands_less : (tables : List Loaded) (q : RowQuery) (front : List ℕ) → IsFree tables q front → Stands tables q.query (length front) front
stands_less tables q front free = record { rows = free.stands.rows; hold = λ c m l. free.stands.hold c m (omega (arith, l)) }

-- a search that tried all rows
pub none_front : (tables : List Loaded) (q : RowQuery) (end : ℕ) (front items : List ℕ) → items ≡ front → true ≡ is_cut tables q.query items → IsFrontBehind tables q end front front false
none_front tables q end front items same h = (refl, cut tables q front (ap (is_cut tables q.query) (sym same) ∙ sym h))

pub found_front : (tables : List Loaded) (q : RowQuery) (end : ℕ) (front items : List ℕ) → items ≡ front → length front ≡ end → false ≡ is_cut tables q.query items → IsFrontBehind tables q end front front true
found_front tables q end front items same len e = (len, λ stands. subst (λ n. Stands tables q.query (n + 1) front) len (stands_more tables q.query front items stands same e))

-- what stands behind a row stands behind the front
pub front_further : (tables : List Loaded) (q : RowQuery) (end : ℕ) (front items rows pushed after : List ℕ) (k : ℕ) → items ≡ front → false ≡ is_cut tables q.query items → length front < length q.query.tables → Covers tables q.query front rows →
    k < length rows → pushed ≡ front ++ (get_or rows k 0 ∷ []) → IsFrontBehind tables q end pushed after true → IsFrontBehind tables q end front after true
front_further tables q end front items rows pushed after k same e h covers low is found =
    (found.0, λ stands. found.1 (stands_next tables q.query front rows pushed k (stands_more tables q.query front items stands same e) h covers low is))

pub settled : (b : Bool) (tables : List Loaded) (q : RowQuery) (end : ℕ) (front after : List ℕ) → RowQueryFits q → IsFree tables q front → is_part end q ≡ true → end ≤ length q.query.tables → IsFrontBehind tables q end front after b → IsSettled tables q end after b
settled true tables q end front after fits free part most is = (free_part tables q end after fits part most is.0 (is.1 (stands_less tables q front free)), omega (arith, is.0))
settled false tables q end front after fits free part most is = none_free tables q front free is.1
