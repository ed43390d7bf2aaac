-- One tuple for each choice of rows of the first tables.
use Rattle.std.proofs.Common.{◌≡◌, ◌∙◌, sym, refl, ap, subst, ◌⊎◌, inl, inr, ◌+◌, ◌<◌, ◌≤◌, ◌==◌, Bool, true, false, not, ◌&&◌, ℕ, zero, suc, List, [], ◌∷◌, ◌++◌, length, map, filter, take, drop, get_or, arith, All, Option, Some, None}
use Rattle.std.specs.Prelude.{nat_lt}
use Rattle.std.specs.List.{flat_map, list_all, range_with_len}
use Rattle.std.proofs.lemmas.Bool.{and_parts}
use borrow.Author.Tests.{ltb-true}
use Rattle.std.proofs.lemmas.List.{get_or-take, take_at}
use Rattle.vocabulary.specs.declared.term.Term.{Term}
use Rattle.vocabulary.specs.Lists.{In, here, there}
use Rattle.vocabulary.proofs.Lists.{In-append_left, In-append_right, In-append_cases, In-map}
use Rattle.source_tables.specs.Tables.{Loaded}
use Rattle.mapping_facts.specs.declared.query.Place.{Place}
use Rattle.mapping_facts.specs.declared.query.RowQuery.{RowQuery}
use Rattle.mapping_facts.specs.declared.term.RowTerm.{RowTerm}
use Rattle.mapping_facts.specs.Fits.{RowQueryFits, TermFits}
use Rattle.mapping_facts.specs.RowQueries.{row_tuples, terms_at}
use Rattle.mapping_facts.specs.Tuples.{cell_of}
use Rattle.mapping_facts.proofs.Members.{All-In, from_map}
use Rattle.table_renumbering.specs.Places.{term_places}
use Rattle.table_renumbering.specs.Renumbering.{IsRenumbering, picked, table_in}
use Rattle.table_renumbering.specs.Tuples.{GivesTerms, IsSameAt, LeadsBack, LeadsForth}
use Rattle.table_renumbering.proofs.Cells.{term_fits, terms_same}
use Rattle.table_renumbering.proofs.Numbers.{cell_same, rows_count}
use Rattle.join_engine.specs.Fronts.{asked_behind, is_cut, IsFoundBehind}
use Rattle.join_engine.specs.Heads.{AreHeads, GainsHeads, IsFree, IsHeadWithin, IsSettled, IsSome, Stands, are_behind, are_within, is_term_behind, is_term_within}
use Rattle.join_engine.specs.Orders.{IsReordering}
use Rattle.join_engine.specs.Ties.{Covers}
use Rattle.join_engine.proofs.Fronts.{by_tried, cut, one_more}
use Rattle.join_engine.proofs.Parts.{all_in, behind_free, free_gets, front_rows, no_members, none_free}
use Rattle.join_engine.proofs.Rows.{asked_rows, begins, behind_asked}

-- what is gained, step by step
gains_none : (end : ℕ) (found : List (List ℕ)) → GainsHeads end [] found found
gains_none end found = record { kept = λ t m. m; only = λ t m. inl m; all = λ t m. elim m [ ] }

gains_more : (end : ℕ) (xs ys a b c : List (List ℕ)) → GainsHeads end xs a b → GainsHeads end ys b c → GainsHeads end (xs ++ ys) a c
gains_more end xs ys a b c g h = record {
  kept = λ t m. h.kept t (g.kept t m);
  only = λ t m. elim (h.only t m) [ inl k ↦ early t (g.only t k) | inr k ↦ inr (In-append_right xs k) ];
  all = λ t m. elim (In-append_cases xs ys m) [ inl k ↦ (let u = g.all t k in (u.0, h.kept u.0 u.1, u.2)) | inr k ↦ h.all t k ];
}
  where
    early : (t : List ℕ) → In t a ⊎ In t xs → In t a ⊎ In t (xs ++ ys)
    early t (inl k) = inl k
    early t (inr k) = inr (In-append_left ys k)

pub gains_cut : (tables : List Loaded) (q : RowQuery) (end : ℕ) (front items : List ℕ) (found : List (List ℕ)) → items ≡ front → true ≡ is_cut tables q.query items → GainsHeads end (asked_behind tables q front) found found
gains_cut tables q end front items found same h =
    subst (λ tuples. GainsHeads end tuples found found) (sym (cut tables q front (ap (is_cut tables q.query) (sym same) ∙ sym h))) (gains_none end found)

-- one tuple behind a front, where there is one
pub gains_found : (tables : List Loaded) (q : RowQuery) (front given after : List ℕ) (found more : List (List ℕ)) → given ≡ front → IsFoundBehind tables q given after true → more ≡ found ++ (after ∷ []) → GainsHeads (length front) (asked_behind tables q front) found more
gains_found tables q front given after found more same is added =
    let m : In after (asked_behind tables q front) = subst (λ z. In after (asked_behind tables q z)) same is in
    subst (GainsHeads (length front) (asked_behind tables q front) found) (sym added) (record {
      kept = λ t k. In-append_left (after ∷ []) k;
      only = λ t k. elim (In-append_cases found (after ∷ []) k) [ inl j ↦ inl j | inr j ↦ inr (one t m j) ];
      all = λ t k. (after, In-append_right found (here refl), begins tables q front after m ∙ sym (begins tables q front t k));
    })
  where
    one : (t : List ℕ) → In after (asked_behind tables q front) → In t (after ∷ []) → In t (asked_behind tables q front)
    one t m (here e) = subst (λ z. In z (asked_behind tables q front)) e m
    one t m (there k) = elim k [ ]

pub gains_not : (tables : List Loaded) (q : RowQuery) (front given after : List ℕ) (found : List (List ℕ)) → given ≡ front → IsFoundBehind tables q given after false → GainsHeads (length front) (asked_behind tables q front) found found
gains_not tables q front given after found same is =
    subst (λ tuples. GainsHeads (length front) tuples found found) (sym (ap (asked_behind tables q) (sym same) ∙ is.1)) (gains_none (length front) found)

-- row by row
pub gains_row : (f : ℕ → List (List ℕ)) (end : ℕ) (found before after : List (List ℕ)) (rows : List ℕ) (i : ℕ) → i < length rows → GainsHeads end (flat_map f (take i rows)) found before → GainsHeads end (f (get_or rows i 0)) before after →
    GainsHeads end (flat_map f (take (i + 1) rows)) found after
gains_row f end found before after rows i h g k =
    subst (λ tuples. GainsHeads end tuples found after) (sym (one_more f rows i h)) (gains_more end (flat_map f (take i rows)) (f (get_or rows i 0)) found before after g k)

pub gains_all : (tables : List Loaded) (q : RowQuery) (end : ℕ) (front rows : List ℕ) (found after : List (List ℕ)) → Covers tables q.query front rows → length front < length q.query.tables →
    GainsHeads end (flat_map (λ i. asked_behind tables q (front ++ (i ∷ []))) rows) found after → GainsHeads end (asked_behind tables q front) found after
gains_all tables q end front rows found after covers within g = subst (λ tuples. GainsHeads end tuples found after) (by_tried tables q front rows covers within) g

-- the head speaks of no table behind its end
pub head_within : (end : ℕ) (q : RowQuery) → list_all (is_term_within end) q.head ≡ true → IsHeadWithin end q
head_within end q e r m p k = ltb-true p.table end (all_in (λ p. nat_lt p.table end) (term_places r) (all_in (is_term_within end) q.head e r m) p k)

pub head_fits : (q : RowQuery) → RowQueryFits q → IsHeadWithin (length q.query.tables) q
head_fits q fits r m p k = term_fits (length q.query.tables) r (All-In (TermFits (length q.query.tables)) q.head fits.head m) p k

-- two tuples with the same rows up to the end give the same terms
same_terms : (tables : List Loaded) (q : RowQuery) (end : ℕ) (t u : List ℕ) → RowQueryFits q → length t ≡ length q.query.tables → length u ≡ length q.query.tables →
    ((r : RowTerm) → In r q.head → (p : Place) → In p (term_places r) → get_or t p.table 0 ≡ get_or u p.table 0) →
    terms_at (cell_of tables q.query.tables t) q.head ≡ terms_at (cell_of tables q.query.tables u) q.head
same_terms tables q end t u fits lt lu same =
    terms_same (cell_of tables q.query.tables t) (cell_of tables q.query.tables u) q.head
    (λ r m p k. (let within = head_fits q fits r m p k in cell_same tables q.query.tables q.query.tables t u p p lt lu within within refl (same r m p k) refl))

pub heads_found : (tables : List Loaded) (q : RowQuery) (end : ℕ) (front : List ℕ) (found : List (List ℕ)) → RowQueryFits q → IsFree tables q front → IsHeadWithin end q → GainsHeads end (asked_behind tables q front) [] found → AreHeads tables q found
heads_found tables q end front found fits free within gains = record {
  asked = λ t m. elim (gains.only t m) [ inl k ↦ elim k [ ] | inr k ↦ behind_asked tables q front t (front_rows tables q front free) k ];
  all = λ ts g. reached ts g;
}
  where
    reached : (ts : List Term) → GivesTerms tables q (row_tuples tables q) ts → GivesTerms tables q found ts
    reached ts g =
        let t = g.0 in
        let other : List ℕ = front ++ drop (length front) t in
        let u = gains.all other (behind_free tables q front t free g.1) in
        let lt = rows_count tables q.query.tables t (asked_rows tables q t g.1).0 in
        let mu : In u.0 (row_tuples tables q) = elim (gains.only u.0 u.1) [ inl k ↦ elim k [ ] | inr k ↦ behind_asked tables q front u.0 (front_rows tables q front free) k ] in
        let lu = rows_count tables q.query.tables u.0 (asked_rows tables q u.0 mu).0 in (
          u.0,
          u.1,
          same_terms tables q end u.0 t fits lu lt (λ r m p k.
              sym (get_or-take end u.0 p.table 0 (within r m p k)) ∙ (λ i. get_or (u.2 i) p.table 0) ∙ get_or-take end other p.table 0 (within r m p k) ∙ free_gets tables q front t free r m p k)
              ∙ g.2,
        )

pub no_heads : (tables : List Loaded) (q : RowQuery) → row_tuples tables q ≡ [] → AreHeads tables q []
no_heads tables q none = record {
  asked = λ t m. elim m [ ];
  all = λ ts g. (let m : In g.0 [] = subst (In g.0) none g.1 in elim m [ ]);
}

-- tuples of the tables in another order
pub numbered : (q : RowQuery) (order places : List ℕ) → IsReordering (length q.query.tables) order places → IsRenumbering q.query.tables order places
numbered q order places is = record {
  whole = is.whole;
  among = λ m l. (let low : m < length q.query.tables = rw (sym is.many) l in let e = (is.each m low).0 in rw (sym is.many) e);
  placed = λ k l. (is.each k l).1;
  same = λ k l. ap (table_in q.query.tables) (is.each k l).2;
}

pub reordered_by : (n : ℕ) (order places own theirs : List ℕ) → IsReordering n order places → own ≡ order → theirs ≡ places → IsReordering n own theirs
reordered_by n order places own theirs is e f = subst (λ z. IsReordering n z theirs) (sym e) (subst (IsReordering n order) (sym f) is)

same_at : (q : RowQuery) (order places tuple : List ℕ) → IsReordering (length q.query.tables) order places → IsSameAt order places tuple
same_at q order places tuple is k l = (let low : k < length q.query.tables = rw (sym is.whole) l in ap (λ n. get_or tuple n 0) (is.each k low).2)

pub heads_back : (tables : List Loaded) (q r : RowQuery) (order places : List ℕ) (found given : List (List ℕ)) → IsReordering (length q.query.tables) order places → LeadsBack places q r → LeadsForth order places q r → AreHeads tables r found →
    given ≡ map (picked places) found → AreHeads tables q given
heads_back tables q r order places found given is back forth heads same = subst (AreHeads tables q) (sym same) (record {
  asked = λ t m. (let s = from_map (picked places) found m in subst (λ z. In z (row_tuples tables q)) s.2 (back tables s.0 (heads.asked s.0 s.1)).0);
  all = λ ts g. (
      let f = forth tables g.0 g.1 (same_at q order places g.0 is) in
      let h = heads.all ts (picked order g.0, f.0, sym f.1 ∙ g.2) in
      let b = back tables h.0 (heads.asked h.0 h.1) in
      (picked places h.0, In-map (picked places) h.1, b.1 ∙ h.2)
      );
})

pub none_back : (tables : List Loaded) (q r : RowQuery) (order places : List ℕ) → IsReordering (length q.query.tables) order places → LeadsForth order places q r → row_tuples tables r ≡ [] → row_tuples tables q ≡ []
none_back tables q r order places is forth none =
    no_members (row_tuples tables q) (λ t m. (let f = forth tables t m (same_at q order places t is) in let k : In (picked order t) [] = subst (In (picked order t)) none f.0 in elim k [ ]))

pub some_back : (tables : List Loaded) (q r : RowQuery) (places tuple given : List ℕ) → LeadsBack places q r → In tuple (row_tuples tables r) → given ≡ picked places tuple → In given (row_tuples tables q)
some_back tables q r places tuple given back m same = subst (λ z. In z (row_tuples tables q)) (sym same) (back tables tuple m).0

-- one tuple behind a free front
pub some_behind : (tables : List Loaded) (q : RowQuery) (front tuple given : List ℕ) → IsFree tables q front → IsFoundBehind tables q front tuple true → given ≡ tuple → In given (row_tuples tables q)
some_behind tables q front tuple given free is same = subst (λ z. In z (row_tuples tables q)) (sym same) (behind_asked tables q front tuple (front_rows tables q front free) is)

pub none_behind : (tables : List Loaded) (q : RowQuery) (front tuple : List ℕ) → IsFree tables q front → IsFoundBehind tables q front tuple false → row_tuples tables q ≡ []
none_behind tables q front tuple free is = none_free tables q front free is.1

-- what stands at the leaves of the walk and at its root
pub gains_at : (tables : List Loaded) (q : RowQuery) (end : ℕ) (front items : List ℕ) (found after : List (List ℕ)) → items ≡ front → length front ≡ end → GainsHeads (length items) (asked_behind tables q items) found after →
    GainsHeads end (asked_behind tables q front) found after
gains_at tables q end front items found after same len g =
    subst (λ n. GainsHeads n (asked_behind tables q front) found after) len (subst (λ xs. GainsHeads (length xs) (asked_behind tables q xs) found after) same g)

pub within_later : (end later : ℕ) (q : RowQuery) → IsHeadWithin end q → end ≤ later → IsHeadWithin later q
within_later end later q h l r m p k = let low = h r m p k in omega (arith, low, l)

pub walked : (tables : List Loaded) (q : RowQuery) (end later : ℕ) (front : List ℕ) (found after : List (List ℕ)) → RowQueryFits q → IsFree tables q front → IsHeadWithin end q → end ≤ later → found ≡ [] →
    GainsHeads later (asked_behind tables q front) found after → AreHeads tables q after
walked tables q end later front found after fits free within l none g =
    heads_found tables q later front after fits free (within_later end later q within l) (subst (λ z. GainsHeads later (asked_behind tables q front) z after) none g)

pub none_walked : (tables : List Loaded) (q : RowQuery) (found : List (List ℕ)) → row_tuples tables q ≡ [] → found ≡ [] → AreHeads tables q found
none_walked tables q found none is = subst (AreHeads tables q) (sym is) (no_heads tables q none)
