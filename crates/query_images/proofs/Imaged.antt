-- Which tuples were collected: the terms of the row queries of queries, which are their images.
use Rattle.std.proofs.Common.{ℕ, arith, ◌≡◌, refl, sym, ◌∙◌, ap, subst, ◌+◌, ◌<◌, ◌≤◌, List, [], ◌∷◌, ◌++◌, length, get_or, take, Option, Some, None, ◌↔◌, ◌⊎◌, inl, inr}
use Rattle.std.specs.List.{flat_map}
use Rattle.std.specs.Option.{option_to_list}
use Rattle.std.proofs.lemmas.List.{take_all, take_more}
use Rattle.vocabulary.specs.declared.term.Term.{Term}
use Rattle.vocabulary.specs.declared.term.Fact.{Fact}
use Rattle.vocabulary.specs.Lists.{In, here, there, IsListOf}
use Rattle.vocabulary.proofs.Lists.{In-append_left, In-append_right, In-append_cases}
use Rattle.source_tables.specs.Tables.{Loaded}
use Rattle.queries.specs.declared.query.Query.{Query}
use Rattle.queries.specs.Order.{tuple_cmp}
use Rattle.mapping_facts.specs.declared.query.RowQuery.{RowQuery}
use Rattle.mapping_facts.specs.declared.mapping.Mapping.{Mapping}
use Rattle.mapping_facts.specs.Facts.{mapped_facts}
use Rattle.mapping_facts.specs.Fits.{HaveTexts}
use Rattle.mapping_facts.specs.RowQueries.{row_tuples, terms_at}
use Rattle.mapping_facts.specs.Tuples.{cell_of}
use Rattle.mapping_facts.proofs.Members.{In-flat_map, from_flat_map}
use Rattle.mapping_unfolding.specs.declared.unfolded.Unfolded.{Unfolded}
use Rattle.mapping_unfolding.specs.Unfoldings.{AreUnfoldings, GivesHead}
use Rattle.table_renumbering.specs.Tuples.{GivesTerms}
use Rattle.relation_join.specs.Joins.{Gains}
use Rattle.query_images.specs.Images.{IsImage, IsImageOfOne, head_at}

from_option : {X : Type 0} (o : Option X) (x : X) → In x (option_to_list o) → o ≡ Some x
from_option None x i = elim i [ ]
from_option (Some y) x (here e) = ap Some e
from_option (Some y) x (there i) = elim i [ ]

to_option : {X : Type 0} (o : Option X) (x : X) → o ≡ Some x → In x (option_to_list o)
to_option None x e = cc
to_option (Some y) x e = here cc

-- the terms of tuples are those that their heads give
module _ (tables : List Loaded) (q : RowQuery) (tuples : List (List ℕ)) (ts : List Term) where
  terms_given : In ts (flat_map (head_at tables q) tuples) → GivesTerms tables q tuples ts
  terms_given i =
      let r = from_flat_map (head_at tables q) tuples i in
      (r.0, r.1, from_option (terms_at (cell_of tables q.query.tables r.0) q.head) ts r.2)

  given_terms : GivesTerms tables q tuples ts → In ts (flat_map (head_at tables q) tuples)
  given_terms g = In-flat_map (head_at tables q) tuples g.1 (to_option (terms_at (cell_of tables q.query.tables g.0) q.head) ts g.2)

-- as many tuples of a row query as its head needs
pub tuples_gained : (tables : List Loaded) (q : RowQuery) (found : List (List ℕ)) (old new : List (List Term)) →
    ((tuple : List ℕ) → In tuple found → In tuple (row_tuples tables q)) → ((ts : List Term) → GivesTerms tables q (row_tuples tables q) ts → GivesTerms tables q found ts) →
    new ≡ old ++ flat_map (head_at tables q) found → Gains (GivesTerms tables q (row_tuples tables q)) old new
tuples_gained tables q found old new asked all e ts = (
  (λ i. elim (In-append_cases old (flat_map (head_at tables q) found) (subst (In ts) e i)) [
    | inl k ↦ inl k
    | inr k ↦ (let g = terms_given tables q found ts k in inr (g.0, asked g.0 g.1, g.2))
  ]),
  (λ k. subst (In ts) (sym e) (elim k [
    | inl i ↦ In-append_left (flat_map (head_at tables q) found) i
    | inr g ↦ In-append_right old (given_terms tables q found ts (all ts g))
  ])),
)

-- one item of a list further
module _ {X : Type 0} (list : List X) (i : ℕ) (x : X) (l : i < length list) (is : x ≡ get_or list i x) where
  pub more : take (i + 1) list ≡ take i list ++ x ∷ []
  more = take_more list i x l ∙ ap (λ z. take i list ++ z ∷ []) (sym is)

  pub earlier : (z : X) → In z (take i list) → In z (take (i + 1) list)
  earlier z k = subst (In z) (sym more) (In-append_left (x ∷ []) k)

  pub latest : In x (take (i + 1) list)
  latest = subst (In x) (sym more) (In-append_right (take i list) (here refl))

  only : (z : X) → In z (x ∷ []) → z ≡ x
  only z (here e) = sym e
  only z (there k) = elim k [ ]

  pub earlier_or_latest : (z : X) → In z (take (i + 1) list) → In z (take i list) ⊎ (z ≡ x)
  earlier_or_latest z k = elim (In-append_cases (take i list) (x ∷ []) (subst (In z) more k)) [ inl m ↦ inl m | inr m ↦ inr (only z m) ]

-- one row query further
pub heads_more : (tables : List Loaded) (list : List Unfolded) (i : ℕ) (u : Unfolded) (start old new : List (List Term)) → i < length list → u ≡ get_or list i u →
    Gains (GivesHead tables (take i list)) start old → Gains (GivesTerms tables u.rows (row_tuples tables u.rows)) old new → Gains (GivesHead tables (take (i + 1) list)) start new
heads_more tables list i u start old new l is so_far gains ts = (
  (λ k. elim ((gains ts).0 k) [
    | inl m ↦ elim ((so_far ts).0 m) [
      | inl s ↦ inl s
      | inr h ↦ inr (h.0, earlier list i u l is h.0 h.1, h.2, h.3, h.4)
    ]
    | inr g ↦ inr (u, latest list i u l is, g.0, g.1, g.2)
  ]),
  (λ k. (gains ts).1 (elim k [
    | inl s ↦ inl ((so_far ts).1 (inl s))
    | inr h ↦ elim (earlier_or_latest list i u l is h.0 h.1) [
      | inl m ↦ inl ((so_far ts).1 (inr (h.0, m, h.2, h.3, h.4)))
      | inr e ↦ inr (subst (λ z. GivesTerms tables z.rows (row_tuples tables z.rows) ts) e (h.2, h.3, h.4))
    ]
  ])),
)

pub no_heads : (tables : List Loaded) (list : List Unfolded) (start : List (List Term)) → Gains (GivesHead tables (take 0 list)) start start
no_heads tables list start ts = ((λ k. inl k), (λ k. elim k [ inl s ↦ s | inr h ↦ elim h.1 [ ] ]))

pub all_heads : (tables : List Loaded) (list : List Unfolded) (i : ℕ) (start new : List (List Term)) → length list ≤ i → Gains (GivesHead tables (take i list)) start new → Gains (GivesHead tables list) start new
all_heads tables list i start new l gains = subst (λ z. Gains (GivesHead tables z) start new) (take_all i list l) gains

-- the terms of the row queries of a query are its images
pub images_gained : (mappings : List Mapping) (q : Query) (list : List Unfolded) (tables : List Loaded) (old new : List (List Term)) → HaveTexts tables → AreUnfoldings mappings q list → Gains (GivesHead tables list) old new → Gains (IsImage (mapped_facts mappings tables) q) old new
unfolding IsImage
images_gained mappings q list tables old new texts are gains ts = (
  (λ i. elim ((gains ts).0 i) [ inl k ↦ inl k | inr h ↦ inr ((are tables texts ts).1 h) ]),
  (λ k. (gains ts).1 (elim k [ inl i ↦ inl i | inr m ↦ inr ((are tables texts ts).0 m) ])),
)

-- one query further
pub images_more : (facts : List Fact) (queries : List Query) (i : ℕ) (q : Query) (old new : List (List Term)) → i < length queries → q ≡ get_or queries i q → ((ts : List Term) → In ts old ↔ IsImageOfOne facts (take i queries) ts) → Gains (IsImage facts q) old new → (ts : List Term) → In ts new ↔ IsImageOfOne facts (take (i + 1) queries) ts
images_more facts queries i q old new l is so_far gains ts = (
  (λ k. elim ((gains ts).0 k) [
    | inl k ↦ (let h = (so_far ts).0 k in (h.0, earlier queries i q l is h.0 h.1, h.2))
    | inr m ↦ (q, latest queries i q l is, m)
  ]),
  (λ h. (gains ts).1 (elim (earlier_or_latest queries i q l is h.0 h.1) [
    | inl k ↦ inl ((so_far ts).1 (h.0, k, h.2))
    | inr e ↦ inr (subst (λ z. IsImage facts z ts) e h.2)
  ])),
)

-- what is gained from nothing
pub only_gained : (P : List Term → Type 0) (found : List (List Term)) → Gains P [] found → (ts : List Term) → In ts found ↔ P ts
only_gained P found gains ts = ((λ i. elim ((gains ts).0 i) [ inl k ↦ elim k [ ] | inr p ↦ p ]), (λ p. (gains ts).1 (inr p)))

-- what is found, in order
pub listed : (P : List Term → Type 0) (found tuples : List (List Term)) → ((ts : List Term) → In ts found ↔ P ts) → IsListOf tuple_cmp (λ ts. In ts found) tuples → IsListOf tuple_cmp P tuples
listed P found tuples same is = record {
  ordered = is.ordered;
  each = λ ts i. (same ts).0 (is.each ts i);
  all = λ ts p. is.all ts ((same ts).1 p);
}

pub kept : (P : List Term → Type 0) (found tuples : List (List Term)) → ((ts : List Term) → In ts found ↔ P ts) → IsListOf tuple_cmp (λ ts. In ts found) tuples → (ts : List Term) → In ts tuples ↔ P ts
kept P found tuples same is ts = ((λ i. (same ts).0 (is.each ts i)), (λ p. is.all ts ((same ts).1 p)))

-- both lists together have what the two others have
abbrev pub Shares : List (List Term) → List (List Term) → List (List Term) → List (List Term) → Type 0
Shares out found start all = (ts : List Term) → (In ts out ⊎ In ts found) ↔ (In ts start ⊎ In ts all)

pub shares_more : (out found start all new rest : List (List Term)) (x : List Term) → Shares out found start all → found ≡ rest ++ x ∷ [] → new ≡ out ++ x ∷ [] → Shares new rest start all
shares_more out found start all new rest x same e is ts = (
  (λ k. (same ts).0 (elim k [
    | inl i ↦ elim (In-append_cases out (x ∷ []) (subst (In ts) is i)) [ inl m ↦ inl m | inr m ↦ inr (subst (In ts) (sym e) (In-append_right rest m)) ]
    | inr i ↦ inr (subst (In ts) (sym e) (In-append_left (x ∷ []) i))
  ])),
  (λ k. elim ((same ts).1 k) [
    | inl i ↦ inl (subst (In ts) (sym is) (In-append_left (x ∷ []) i))
    | inr i ↦ elim (In-append_cases rest (x ∷ []) (subst (In ts) e i)) [ inl m ↦ inr m | inr m ↦ inl (subst (In ts) (sym is) (In-append_right out m)) ]
  ]),
)

pub shares_all : (out found start all : List (List Term)) → Shares out found start all → found ≡ [] → Gains (λ ts. In ts all) start out
shares_all out found start all same e ts = (
  (λ i. (same ts).0 (inl i)),
  (λ k. elim ((same ts).1 k) [ inl i ↦ i | inr i ↦ none (subst (In ts) e i) ]),
)
  where
    none : In ts [] → In ts out
    none i = elim i [ ]

pub no_items : {X : Type 0} (xs : List X) → length xs ≡ 0 → xs ≡ []
no_items [] e = refl
no_items (x ∷ xs) e = absurd (omega (arith, e))
