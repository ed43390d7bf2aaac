-- Rows of the first tables and of those behind them, side by side.
use Rattle.std.proofs.Common.{◌≡◌, ◌∙◌, sym, refl, ap, subst, ◌+◌, ◌<◌, ◌≤◌, true, ◌&&◌, ℕ, zero, suc, List, [], ◌∷◌, ◌++◌, length, map, filter, take, drop, get_or, arith, All}
use Rattle.std.specs.List.{list_all}
use Rattle.std.proofs.lemmas.Bool.{and_parts}
use Rattle.std.proofs.lemmas.List.{take-append-drop, take_at}
use Rattle.vocabulary.specs.declared.ids.TableId.{TableId}
use Rattle.vocabulary.specs.Lists.{In, here, there}
use Rattle.vocabulary.proofs.Lists.{In-map}
use Rattle.source_tables.specs.Tables.{Loaded}
use Rattle.mapping_facts.specs.declared.query.RowQuery.{RowQuery}
use Rattle.mapping_facts.specs.RowQueries.{are_apart, is_asked, is_defined, row_tuples}
use Rattle.mapping_facts.specs.Tuples.{cell_of, condition_holds, product, satisfies, table_rows}
use Rattle.mapping_facts.proofs.Members.{from_filter, from_map, to_filter}
use Rattle.mapping_facts.proofs.Tuples.{AreRows, in_all_tuples}
use Rattle.join_engine.specs.Fronts.{asked_behind}

pub rows_beside : (tables : List Loaded) (ts us : List TableId) (a b : List ℕ) → AreRows tables ts a → AreRows tables us b → AreRows tables (ts ++ us) (a ++ b)
rows_beside tables [] us [] b h k = k
rows_beside tables [] us (r ∷ a) b h k = absurd h
rows_beside tables (t ∷ ts) us [] b h k = absurd h
rows_beside tables (t ∷ ts) us (r ∷ a) b h k = (h.0, rows_beside tables ts us a b h.1 k)

pub rows_drop : (tables : List Loaded) (n : ℕ) (ts : List TableId) (a : List ℕ) → AreRows tables ts a → AreRows tables (drop n ts) (drop n a)
rows_drop tables zero ts a h = h
rows_drop tables (suc n) [] [] h = tt
rows_drop tables (suc n) [] (r ∷ a) h = absurd h
rows_drop tables (suc n) (t ∷ ts) [] h = absurd h
rows_drop tables (suc n) (t ∷ ts) (r ∷ a) h = rows_drop tables n ts a h.1

-- a tuple that is asked for, and what makes one
pub asked_rows : (tables : List Loaded) (q : RowQuery) (t : List ℕ) → In t (row_tuples tables q) → AreRows tables q.query.tables t × (is_asked tables q t ≡ true)
asked_rows tables q t m =
    let r = from_filter (is_asked tables q) t (product tables q.query.tables) m in
    ((in_all_tuples tables q.query.tables t).0 r.0, r.1)

pub rows_asked : (tables : List Loaded) (q : RowQuery) (t : List ℕ) → AreRows tables q.query.tables t → is_asked tables q t ≡ true → In t (row_tuples tables q)
rows_asked tables q t h e = to_filter (is_asked tables q) t (product tables q.query.tables) ((in_all_tuples tables q.query.tables t).1 h) e

-- and one that begins with a front
pub record Behind (tables : List Loaded) (q : RowQuery) (front t : List ℕ) : Type 0 where
  pub rest : List ℕ
  pub rows : AreRows tables (drop (length front) q.query.tables) rest
  pub is : t ≡ front ++ rest
  pub asked : is_asked tables q t ≡ true

pub behind_front : (tables : List Loaded) (q : RowQuery) (front t : List ℕ) → In t (asked_behind tables q front) → Behind tables q front t
unfolding asked_behind
behind_front tables q front t m =
    let r = from_filter (is_asked tables q) t (map (λ rest. front ++ rest) (product tables (drop (length front) q.query.tables))) m in
    let s = from_map (λ rest. front ++ rest) (product tables (drop (length front) q.query.tables)) r.0 in
    record { rest = s.0; rows = (in_all_tuples tables (drop (length front) q.query.tables) s.0).0 s.1; is = sym s.2; asked = r.1 }

pub front_behind : (tables : List Loaded) (q : RowQuery) (front rest : List ℕ) → AreRows tables (drop (length front) q.query.tables) rest → is_asked tables q (front ++ rest) ≡ true → In (front ++ rest) (asked_behind tables q front)
unfolding asked_behind
front_behind tables q front rest rows e =
    to_filter (is_asked tables q) (front ++ rest) (map (λ rest. front ++ rest) (product tables (drop (length front) q.query.tables)))
    (In-map (λ rest. front ++ rest) ((in_all_tuples tables (drop (length front) q.query.tables) rest).1 rows)) e

pub behind_asked : (tables : List Loaded) (q : RowQuery) (front t : List ℕ) → AreRows tables (take (length front) q.query.tables) front → In t (asked_behind tables q front) → In t (row_tuples tables q)
behind_asked tables q front t rows m =
    let b = behind_front tables q front t m in
    rows_asked tables q t
    (subst (AreRows tables q.query.tables) (sym b.is)
    (subst (λ ts. AreRows tables ts (front ++ b.rest)) (take-append-drop (length front) q.query.tables)
    (rows_beside tables (take (length front) q.query.tables) (drop (length front) q.query.tables) front b.rest rows b.rows)))
    b.asked

-- all tuples behind a front begin with it
pub begins : (tables : List Loaded) (q : RowQuery) (front t : List ℕ) → In t (asked_behind tables q front) → take (length front) t ≡ front
begins tables q front t m = let b = behind_front tables q front t m in ap (take (length front)) b.is ∙ take_at front b.rest (length front) refl

-- what is_asked says, and what makes it
pub record Asked (tables : List Loaded) (q : RowQuery) (t : List ℕ) : Type 0 where
  pub conditions : list_all (condition_holds (cell_of tables q.query.tables t)) q.query.conditions ≡ true
  pub head : list_all (is_defined (cell_of tables q.query.tables t)) q.head ≡ true
  pub apart : list_all (are_apart (cell_of tables q.query.tables t)) q.apart ≡ true

pub asked_says : (tables : List Loaded) (q : RowQuery) (t : List ℕ) → is_asked tables q t ≡ true → Asked tables q t
asked_says tables q t e =
    let c = cell_of tables q.query.tables t in
    let a = and_parts (satisfies tables q.query t && list_all (is_defined c) q.head) (list_all (are_apart c) q.apart) e in
    let p = and_parts (satisfies tables q.query t) (list_all (is_defined c) q.head) a.0 in
    record { conditions = p.0; head = p.1; apart = a.1 }

pub says_asked : (tables : List Loaded) (q : RowQuery) (t : List ℕ) → Asked tables q t → is_asked tables q t ≡ true
says_asked tables q t a = rw (a.conditions, a.head, a.apart) refl
