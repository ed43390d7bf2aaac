-- What is moved to other places, and the tuples there.
use Rattle.std.proofs.Common.{ℕ, ◌≡◌, refl, sym, ap, ◌∙◌, ◌<◌, ◌&&◌, Bool, List, [], ◌∷◌, map, length, get_or, All, Option, arith}
use Rattle.std.specs.Prelude.{is_some, option_map, option_and_then}
use Rattle.std.specs.List.{list_all}
use Rattle.std.proofs.lemmas.List.{get_or-map, length-map}
use Rattle.std.proofs.lemmas.List.Elements.{All-nil, All-cons, All-head, All-tail, All-map}
use Rattle.vocabulary.specs.declared.ids.TableId.{TableId}
use Rattle.vocabulary.specs.declared.term.Term.{Term, Named, Value}
use Rattle.vocabulary.specs.Lists.{In, here, there}
use Rattle.source_tables.specs.Cells.{Cell}
use Rattle.source_tables.specs.Tables.{Loaded}
use Rattle.iri_templates.specs.Texts.{filled_text}
use Rattle.mapping_facts.specs.declared.query.Place.{Place}
use Rattle.mapping_facts.specs.declared.query.Condition.{Condition}
use Rattle.mapping_facts.specs.declared.query.Condition.TheVariants.{Equal, EqualText, Differ, DifferText, IsNull, NotNull}
use Rattle.mapping_facts.specs.declared.query.RowQuery.{RowQuery}
use Rattle.mapping_facts.specs.declared.term.RowTerm.{RowTerm}
use Rattle.mapping_facts.specs.declared.term.RowTerm.TheVariants.{Iri, Cell as CellTerm, Fixed}
use Rattle.mapping_facts.specs.Facts.{term_at}
use Rattle.mapping_facts.specs.Fits.{ConditionFits, PlaceFits, QueryFits, RowQueryFits, TermFits}
use Rattle.mapping_facts.specs.RowQueries.{are_apart, is_asked, is_defined, row_tuples, terms_at, texts_differ}
use Rattle.mapping_facts.specs.Tuples.{cell_of, condition_holds, product, satisfies, table_rows}
use Rattle.mapping_facts.proofs.Members.{from_filter, to_filter}
use Rattle.mapping_facts.proofs.Tuples.{AreRows, CellsAt, in_all_tuples}
use Rattle.table_renumbering.specs.Renumbering.{IsRenumbering, moved_condition, moved_pair, moved_place, moved_query, moved_term, picked, picked_tables, table_in}
use Rattle.table_renumbering.specs.Tuples.{IsSameAt, LeadsBack, LeadsForth}
use Rattle.table_renumbering.proofs.Cells.{condition_fits, condition_same, term_fits, term_same}
use Rattle.table_renumbering.proofs.Numbers.{cell_same, rows_count, rows_each, to_rows}

-- cells at the places where the tables stand then are those at the places where they stood
abbrev pub Agree : ℕ → List ℕ → CellsAt → CellsAt → Type 0
Agree n places c e = (p : Place) → PlaceFits n p → c (moved_place places p) ≡ e p

moved_holds : (places : List ℕ) (c : CellsAt) (x : Condition) → condition_holds c (moved_condition places x) ≡ condition_holds (λ p. c (moved_place places p)) x
moved_holds places c (Equal p q) = refl
moved_holds places c (EqualText p text) = refl
moved_holds places c (Differ p q) = refl
moved_holds places c (DifferText p text) = refl
moved_holds places c (IsNull p) = refl
moved_holds places c (NotNull p) = refl

moved_cells : (places : List ℕ) (c : CellsAt) (ps : List Place) → map c (map (moved_place places) ps) ≡ map (λ p. c (moved_place places p)) ps
moved_cells places c [] = refl
moved_cells places c (p ∷ ps) = ap (λ cells. c (moved_place places p) ∷ cells) (moved_cells places c ps)

moved_term_at : (places : List ℕ) (c : CellsAt) (r : RowTerm) → term_at c (moved_term places r) ≡ term_at (λ p. c (moved_place places p)) r
moved_term_at places c (Iri template ps) = ap (λ cells. option_map Named (filled_text template cells)) (moved_cells places c ps)
moved_term_at places c (CellTerm kind p) = refl
moved_term_at places c (Fixed term) = refl

holds_then : (n : ℕ) (places : List ℕ) (c e : CellsAt) → Agree n places c e → (x : Condition) → ConditionFits n x → condition_holds c (moved_condition places x) ≡ condition_holds e x
holds_then n places c e h x f = moved_holds places c x ∙ condition_same (λ p. c (moved_place places p)) e x (λ p m. h p (condition_fits n x f p m))

term_then : (n : ℕ) (places : List ℕ) (c e : CellsAt) → Agree n places c e → (r : RowTerm) → TermFits n r → term_at c (moved_term places r) ≡ term_at e r
term_then n places c e h r f = moved_term_at places c r ∙ term_same (λ p. c (moved_place places p)) e r (λ p m. h p (term_fits n r f p m))

-- the same for lists of them
all_conditions : (n : ℕ) (places : List ℕ) (c e : CellsAt) → Agree n places c e → (xs : List Condition) → All (ConditionFits n) xs → list_all (condition_holds c) (map (moved_condition places) xs) ≡ list_all (condition_holds e) xs
all_conditions n places c e h [] f = refl
all_conditions n places c e h (x ∷ xs) f =
    λ i. holds_then n places c e h x (All-head (ConditionFits n) x xs f) i && all_conditions n places c e h xs (All-tail (ConditionFits n) x xs f) i

all_defined : (n : ℕ) (places : List ℕ) (c e : CellsAt) → Agree n places c e → (rs : List RowTerm) → All (TermFits n) rs → list_all (is_defined c) (map (moved_term places) rs) ≡ list_all (is_defined e) rs
all_defined n places c e h [] f = refl
all_defined n places c e h (r ∷ rs) f =
    λ i. is_some (term_then n places c e h r (All-head (TermFits n) r rs f) i) && all_defined n places c e h rs (All-tail (TermFits n) r rs f) i

abbrev PairFits : ℕ → RowTerm × RowTerm → Type 0
PairFits n pair = TermFits n pair.0 × TermFits n pair.1

all_apart : (n : ℕ) (places : List ℕ) (c e : CellsAt) → Agree n places c e → (xs : List (RowTerm × RowTerm)) → All (PairFits n) xs → list_all (are_apart c) (map (moved_pair places) xs) ≡ list_all (are_apart e) xs
all_apart n places c e h [] f = refl
all_apart n places c e h (x ∷ xs) f =
    let fits = All-head (PairFits n) x xs f in
    λ i. texts_differ (term_then n places c e h x.0 fits.0 i) (term_then n places c e h x.1 fits.1 i) && all_apart n places c e h xs (All-tail (PairFits n) x xs f) i

moved_terms_at : (n : ℕ) (places : List ℕ) (c e : CellsAt) → Agree n places c e → (rs : List RowTerm) → All (TermFits n) rs → terms_at c (map (moved_term places) rs) ≡ terms_at e rs
moved_terms_at n places c e h [] f = refl
moved_terms_at n places c e h (r ∷ rs) f =
    λ i. option_and_then (λ t. option_map (λ ts. t ∷ ts) (moved_terms_at n places c e h rs (All-tail (TermFits n) r rs f) i)) (term_then n places c e h r (All-head (TermFits n) r rs f) i)

moved_asked : (tables : List Loaded) (order places : List ℕ) (q : RowQuery) (tuple other : List ℕ) → RowQueryFits q →
    Agree (length q.query.tables) places (cell_of tables (picked_tables order q.query.tables) tuple) (cell_of tables q.query.tables other) →
    is_asked tables (moved_query order places q) tuple ≡ is_asked tables q other
moved_asked tables order places q tuple other fits h =
    let n = length q.query.tables in
    let c = cell_of tables (picked_tables order q.query.tables) tuple in
    let e = cell_of tables q.query.tables other in
    λ i. all_conditions n places c e h q.query.conditions fits.query i && all_defined n places c e h q.head fits.head i && all_apart n places c e h q.apart fits.apart i

-- what a row query moved to other places is over
condition_moved : (n m : ℕ) (places : List ℕ) → ((k : ℕ) → k < n → get_or places k 0 < m) → (x : Condition) → ConditionFits n x → ConditionFits m (moved_condition places x)
condition_moved n m places h (Equal p q) f = (h p.table f.0, h q.table f.1)
condition_moved n m places h (EqualText p text) f = h p.table f
condition_moved n m places h (Differ p q) f = (h p.table f.0, h q.table f.1)
condition_moved n m places h (DifferText p text) f = h p.table f
condition_moved n m places h (IsNull p) f = h p.table f
condition_moved n m places h (NotNull p) f = h p.table f

conditions_moved : (n m : ℕ) (places : List ℕ) → ((k : ℕ) → k < n → get_or places k 0 < m) → (xs : List Condition) → All (ConditionFits n) xs → All (ConditionFits m) (map (moved_condition places) xs)
conditions_moved n m places h [] f = All-nil (ConditionFits m)
conditions_moved n m places h (x ∷ xs) f =
    All-cons (ConditionFits m) (moved_condition places x) (map (moved_condition places) xs)
    (condition_moved n m places h x (All-head (ConditionFits n) x xs f)) (conditions_moved n m places h xs (All-tail (ConditionFits n) x xs f))

places_moved : (n m : ℕ) (places : List ℕ) → ((k : ℕ) → k < n → get_or places k 0 < m) → (ps : List Place) → All (PlaceFits n) ps → All (PlaceFits m) (map (moved_place places) ps)
places_moved n m places h [] f = All-nil (PlaceFits m)
places_moved n m places h (p ∷ ps) f =
    All-cons (PlaceFits m) (moved_place places p) (map (moved_place places) ps) (h p.table (All-head (PlaceFits n) p ps f)) (places_moved n m places h ps (All-tail (PlaceFits n) p ps f))

term_moved : (n m : ℕ) (places : List ℕ) → ((k : ℕ) → k < n → get_or places k 0 < m) → (r : RowTerm) → TermFits n r → TermFits m (moved_term places r)
term_moved n m places h (Iri template ps) f = (length-map ps (moved_place places) ∙ f.0, places_moved n m places h ps f.1)
term_moved n m places h (CellTerm kind p) f = h p.table f
term_moved n m places h (Fixed term) f = f

terms_moved : (n m : ℕ) (places : List ℕ) → ((k : ℕ) → k < n → get_or places k 0 < m) → (rs : List RowTerm) → All (TermFits n) rs → All (TermFits m) (map (moved_term places) rs)
terms_moved n m places h [] f = All-nil (TermFits m)
terms_moved n m places h (r ∷ rs) f =
    All-cons (TermFits m) (moved_term places r) (map (moved_term places) rs) (term_moved n m places h r (All-head (TermFits n) r rs f)) (terms_moved n m places h rs (All-tail (TermFits n) r rs f))

pairs_moved : (n m : ℕ) (places : List ℕ) → ((k : ℕ) → k < n → get_or places k 0 < m) → (xs : List (RowTerm × RowTerm)) → All (PairFits n) xs → All (PairFits m) (map (moved_pair places) xs)
pairs_moved n m places h [] f = All-nil (PairFits m)
pairs_moved n m places h (x ∷ xs) f =
    let fits = All-head (PairFits n) x xs f in
    All-cons (PairFits m) (moved_pair places x) (map (moved_pair places) xs) (term_moved n m places h x.0 fits.0, term_moved n m places h x.1 fits.1) (pairs_moved n m places h xs (All-tail (PairFits n) x xs f))

pub moved_fits : (order places : List ℕ) (q : RowQuery) → RowQueryFits q → IsRenumbering q.query.tables order places → RowQueryFits (moved_query order places q)
moved_fits order places q fits num =
    let n = length q.query.tables in
    let m = length (picked_tables order q.query.tables) in
    let placed : (k : ℕ) → k < n → get_or places k 0 < m = (λ k l. rw (length-map order (table_in q.query.tables)) (num.placed k l)) in
    record {
      query = conditions_moved n m places placed q.query.conditions fits.query;
      head = terms_moved n m places placed q.head fits.head;
      apart = pairs_moved n m places placed q.apart fits.apart;
    }

-- the tables and the rows at the places of an order
picked_table : (ts : List TableId) (order : List ℕ) (m : ℕ) → m < length order → table_in (picked_tables order ts) m ≡ table_in ts (get_or order m 0)
picked_table ts order m h = get_or-map (table_in ts) order m 0 (record { 0 = 0 }) h

picked_number : (tuple order : List ℕ) (m : ℕ) → m < length order → get_or (picked order tuple) m 0 ≡ get_or tuple (get_or order m 0) 0
picked_number tuple order m h = get_or-map (λ k. get_or tuple k 0) order m 0 0 h

-- a table and the one that stands at its new place are one
new_table : (q : RowQuery) (order places : List ℕ) → IsRenumbering q.query.tables order places → (k : ℕ) → k < length q.query.tables → table_in (picked_tables order q.query.tables) (get_or places k 0) ≡ table_in q.query.tables k
new_table q order places num k h = picked_table q.query.tables order (get_or places k 0) (num.placed k h) ∙ num.same k h

-- tuples of both that have the same row at both places of each table
cells_then : (tables : List Loaded) (order places : List ℕ) (q : RowQuery) (tuple other : List ℕ) → IsRenumbering q.query.tables order places → length tuple ≡ length (picked_tables order q.query.tables) → length other ≡ length q.query.tables →
    ((k : ℕ) → k < length q.query.tables → get_or tuple (get_or places k 0) 0 ≡ get_or other k 0) → Agree (length q.query.tables) places (cell_of tables (picked_tables order q.query.tables) tuple) (cell_of tables q.query.tables other)
cells_then tables order places q tuple other num e f same p l =
    cell_same tables (picked_tables order q.query.tables) q.query.tables tuple other (moved_place places p) p e f
    (rw (length-map order (table_in q.query.tables)) (num.placed p.table l)) l (new_table q order places num p.table l) (same p.table l) refl

both_asked : (tables : List Loaded) (order places : List ℕ) (q : RowQuery) (tuple other : List ℕ) → RowQueryFits q → IsRenumbering q.query.tables order places →
    AreRows tables (picked_tables order q.query.tables) tuple → AreRows tables q.query.tables other → ((k : ℕ) → k < length q.query.tables → get_or tuple (get_or places k 0) 0 ≡ get_or other k 0) →
    (is_asked tables (moved_query order places q) tuple ≡ is_asked tables q other)
    × (terms_at (cell_of tables (picked_tables order q.query.tables) tuple) (map (moved_term places) q.head) ≡ terms_at (cell_of tables q.query.tables other) q.head)
both_asked tables order places q tuple other fits num rows others same =
    let agree = cells_then tables order places q tuple other num (rows_count tables (picked_tables order q.query.tables) tuple rows) (rows_count tables q.query.tables other others) same in
    (moved_asked tables order places q tuple other fits agree, moved_terms_at (length q.query.tables) places (cell_of tables (picked_tables order q.query.tables) tuple) (cell_of tables q.query.tables other) agree q.head fits.head)

back_rows : (tables : List Loaded) (order places : List ℕ) (q : RowQuery) (tuple : List ℕ) → IsRenumbering q.query.tables order places → AreRows tables (picked_tables order q.query.tables) tuple → AreRows tables q.query.tables (picked places tuple)
back_rows tables order places q tuple num rows =
    to_rows tables q.query.tables (picked places tuple) (length-map places (λ k. get_or tuple k 0) ∙ num.whole) each
  where
    each : (k : ℕ) → k < length q.query.tables → get_or (picked places tuple) k 0 < length (table_rows tables (table_in q.query.tables k))
    each k l =
        let known : k < length places = rw num.whole l in
        let low : get_or places k 0 < length (picked_tables order q.query.tables) = rw (length-map order (table_in q.query.tables)) (num.placed k l) in
        rw (picked_number tuple places k known, sym (new_table q order places num k l)) (rows_each tables (picked_tables order q.query.tables) tuple rows (get_or places k 0) low)

pub leads_back : (order places : List ℕ) (q : RowQuery) → RowQueryFits q → IsRenumbering q.query.tables order places → LeadsBack places q (moved_query order places q)
leads_back order places q fits num tables tuple m =
    let r = from_filter (is_asked tables (moved_query order places q)) tuple (product tables (picked_tables order q.query.tables)) m in
    let rows = (in_all_tuples tables (picked_tables order q.query.tables) tuple).0 r.0 in
    let others = back_rows tables order places q tuple num rows in
    let both = both_asked tables order places q tuple (picked places tuple) fits num rows others (λ k l. sym (picked_number tuple places k (rw num.whole l))) in
    (to_filter (is_asked tables q) (picked places tuple) (product tables q.query.tables) ((in_all_tuples tables q.query.tables (picked places tuple)).1 others) (sym both.0 ∙ r.1), sym both.1)

forth_rows : (tables : List Loaded) (order places : List ℕ) (q : RowQuery) (tuple : List ℕ) → IsRenumbering q.query.tables order places → AreRows tables q.query.tables tuple → AreRows tables (picked_tables order q.query.tables) (picked order tuple)
forth_rows tables order places q tuple num rows =
    to_rows tables (picked_tables order q.query.tables) (picked order tuple) (length-map order (λ k. get_or tuple k 0) ∙ sym (length-map order (table_in q.query.tables))) each
  where
    each : (m : ℕ) → m < length (picked_tables order q.query.tables) → get_or (picked order tuple) m 0 < length (table_rows tables (table_in (picked_tables order q.query.tables) m))
    each m l =
        let known : m < length order = rw (sym (length-map order (table_in q.query.tables))) l in
        rw (picked_number tuple order m known, picked_table q.query.tables order m known) (rows_each tables q.query.tables tuple rows (get_or order m 0) (num.among m known))

pub leads_forth : (order places : List ℕ) (q : RowQuery) → RowQueryFits q → IsRenumbering q.query.tables order places → LeadsForth order places q (moved_query order places q)
leads_forth order places q fits num tables tuple m same =
    let r = from_filter (is_asked tables q) tuple (product tables q.query.tables) m in
    let rows = (in_all_tuples tables q.query.tables tuple).0 r.0 in
    let others = forth_rows tables order places q tuple num rows in
    let both = both_asked tables order places q (picked order tuple) tuple fits num others rows (λ k l. picked_number tuple order (get_or places k 0) (num.placed k l) ∙ same k (rw num.whole l)) in (
      to_filter (is_asked tables (moved_query order places q)) (picked order tuple) (product tables (picked_tables order q.query.tables)) ((in_all_tuples tables (picked_tables order q.query.tables) (picked order tuple)).1 others) (both.0 ∙ r.1),
      sym both.1,
    )
