-- The steps that a tuple gives, and that there are none without one.
use Rattle.std.proofs.Common.{◌≡◌, refl, ◌∙◌, ap, subst, ℕ, zero, suc, ◌+◌, ◌-◌, ◌<◌, ◌≤◌, ◌^◌, true, if◌then◌else◌, List, [], ◌∷◌, length, map, Option, Some, None, All, get_or, take, arith}
use Rattle.std.specs.Prelude.{slice_get, option_and_then}
use Rattle.std.proofs.lemmas.Bool.{lt-ltb}
use Rattle.vocabulary.specs.declared.ids.TableId.{TableId}
use Rattle.vocabulary.specs.Lists.{In, here, there, item, Pairwise}
use Rattle.source_tables.specs.Tables.{Loaded}
use Rattle.queries.specs.declared.query.Atom.{Atom}
use Rattle.queries.specs.Matches.{AtomIs, Terms}
use Rattle.mapping_facts.specs.declared.mapping.Mapping.{Mapping}
use Rattle.mapping_facts.specs.Facts.{mapped_facts, mapping_fact}
use Rattle.mapping_facts.specs.Fits.{AreFit, HaveTexts, MappingFits}
use Rattle.mapping_facts.specs.RowQueries.{is_asked, row_tuples}
use Rattle.mapping_facts.specs.Tuples.{cell_of, product, rows_in, table_rows}
use Rattle.mapping_facts.proofs.Members.{All-In, In-All, In-slice_get, from_filter}
use Rattle.std.proofs.lemmas.List.Elements.{All-head}
use Rattle.mapping_facts.proofs.Tuples.{AreRows, IsTuple, in_all_tuples, in_tuples, satisfies_means}
use Rattle.mapping_facts.proofs.Facts.{fact_gives, in_mapped}
use Rattle.mapping_unfolding.specs.declared.draft.Origin.{Origin}
use Rattle.mapping_unfolding.specs.declared.unfolded.Unfolded.{Unfolded}
use Rattle.mapping_unfolding.specs.Unfoldings.{AreUnfoldings, HasOrigins, OriginGives, OriginsGive, items_from}
use Rattle.conflict_checker.specs.declared.derivation.Step.{Step}
use Rattle.conflict_checker.specs.Derivations.{are_row_numbers, cited_fact, step_fact}
use Rattle.fact_derivation.specs.Asking.{atom_query}
use Rattle.fact_derivation.proofs.Loops.{one_more}
use Rattle.fact_derivation.specs.Finding.{HasFact, IsFound, NoneStands, origin_step, table_count}

-- row numbers, counted from 1
counted : (tables : List Loaded) (ts : List TableId) (rows : List ℕ) → AreRows tables ts rows → are_row_numbers tables ts (map (λ n. n + 1) rows) ≡ true
counted tables [] [] h = refl
counted tables [] (r ∷ rows) h = absurd h
counted tables (t ∷ ts) [] h = absurd h
counted tables (t ∷ ts) (r ∷ rows) h =
    let low = h.0 in
    let back : r + 1 - 1 ≡ r = omega arith in
    rw (lt-ltb 0 (r + 1) (omega arith), lt-ltb (r + 1 - 1) (length (table_rows tables t)) (omega (arith, low)), counted tables ts rows h.1) refl

back_again : (rows : List ℕ) → map (λ n. n - 1) (map (λ n. n + 1) rows) ≡ rows
back_again [] = refl
back_again (r ∷ rows) = let e : r + 1 - 1 ≡ r = omega arith in λ i. e i ∷ back_again rows i

-- a step of an origin has its fact
pub origin_has : (mappings : List Mapping) (tables : List Loaded) (tuple : List ℕ) (σ : Terms) (a : Atom) (o : Origin) (w : OriginGives mappings tables tuple σ a o) → HasFact mappings tables (origin_step mappings tuple o) w.fact
origin_has mappings tables tuple σ a o w axioms earlier =
    let count : table_count (slice_get mappings o.mapping) ≡ length w.mapping.query.tables = ap table_count w.names.0 in
    let next : o.mapping + 1 ≡ suc o.mapping = omega arith in
    let target : o.target + 1 ≡ suc o.target = omega arith in
    let rows : AreRows tables w.mapping.query.tables (items_from o.first (length w.mapping.query.tables) tuple) = ((in_tuples tables w.mapping.query (items_from o.first (length w.mapping.query.tables) tuple)).0 w.rows).0 in
    ap (λ k. option_and_then (λ n. option_and_then (cited_fact tables (map (λ r. r + 1) (items_from o.first (table_count (slice_get mappings o.mapping)) tuple)) n) (item n.targets (o.target + 1))) (item mappings k)) next
    ∙ ap (option_and_then (λ n. option_and_then (cited_fact tables (map (λ r. r + 1) (items_from o.first (table_count (slice_get mappings o.mapping)) tuple)) n) (item n.targets (o.target + 1)))) w.names.0
    ∙ ap (λ k. option_and_then (cited_fact tables (map (λ r. r + 1) (items_from o.first (table_count (slice_get mappings o.mapping)) tuple)) w.mapping) (item w.mapping.targets k)) target
    ∙ ap (option_and_then (cited_fact tables (map (λ r. r + 1) (items_from o.first (table_count (slice_get mappings o.mapping)) tuple)) w.mapping)) w.names.1
    ∙ ap (λ n. cited_fact tables (map (λ r. r + 1) (items_from o.first n tuple)) w.mapping w.target) count
    ∙ ap (λ b. if b then mapping_fact tables w.mapping (map (λ n. n - 1) (map (λ r. r + 1) (items_from o.first (length w.mapping.query.tables) tuple))) w.target else None) (counted tables w.mapping.query.tables (items_from o.first (length w.mapping.query.tables) tuple) rows)
    ∙ ap (λ rs. mapping_fact tables w.mapping rs w.target) (back_again (items_from o.first (length w.mapping.query.tables) tuple))
    ∙ w.gives

-- and its fact is mapped
pub origin_mapped : (mappings : List Mapping) (tables : List Loaded) (tuple : List ℕ) (σ : Terms) (a : Atom) (o : Origin) (w : OriginGives mappings tables tuple σ a o) → In w.fact (mapped_facts mappings tables)
origin_mapped mappings tables tuple σ a o w =
    let is : IsTuple tables w.mapping.query (items_from o.first (length w.mapping.query.tables) tuple) = (in_tuples tables w.mapping.query (items_from o.first (length w.mapping.query.tables) tuple)).0 w.rows in
    let given = rw ((satisfies_means tables w.mapping.query (items_from o.first (length w.mapping.query.tables) tuple)).1 is.1) at w.gives in
    (in_mapped mappings tables w.fact).1 (record {
      mapping = w.mapping;
      target = w.target;
      rows = items_from o.first (length w.mapping.query.tables) tuple;
      is_mapping = In-slice_get mappings o.mapping w.mapping w.names.0;
      is_target = In-slice_get w.mapping.targets o.target w.target w.names.1;
      is_tuple = is;
      gives = fact_gives (cell_of tables w.mapping.query.tables (items_from o.first (length w.mapping.query.tables) tuple)) w.target w.fact given;
    })

-- numbers fit
within : {X : Type 0} (xs : List X) (k : ℕ) (x : X) → slice_get xs k ≡ Some x → k < length xs
within [] k x is = cc
within (y ∷ xs) zero x is = omega arith
within (y ∷ xs) (suc k) x is = let low = within xs k x is in omega (arith, low)

abbrev pub IsSmallOrigin : Origin → Type 0
IsSmallOrigin o = (o.mapping < 2 ^ 32 - 1) × (o.target < 2 ^ 32 - 1)

small_origin : (mappings : List Mapping) (tables : List Loaded) (tuple : List ℕ) (σ : Terms) (a : Atom) (o : Origin) → AreFit mappings → OriginGives mappings tables tuple σ a o → IsSmallOrigin o
small_origin mappings tables tuple σ a o fit w =
    let one = within mappings o.mapping w.mapping w.names.0 in
    let two = within w.mapping.targets o.target w.target w.names.1 in
    let count = fit.count in
    let fits : MappingFits w.mapping = All-In MappingFits mappings fit.each (In-slice_get mappings o.mapping w.mapping w.names.0) in
    let targets = fits.count in
    (omega (arith, one, count), omega (arith, two, targets))

pub small_origins : (mappings : List Mapping) (tables : List Loaded) (tuple : List ℕ) (σ : Terms) (atoms : List Atom) (origins : List Origin) → AreFit mappings → Pairwise (OriginGives mappings tables tuple σ) atoms origins → All IsSmallOrigin origins
small_origins mappings tables tuple σ atoms origins fit p = In-All IsSmallOrigin origins (each atoms origins p)
  where
    each : (atoms : List Atom) (origins : List Origin) → Pairwise (OriginGives mappings tables tuple σ) atoms origins → (o : Origin) → In o origins → IsSmallOrigin o
    each atoms [] p o i = elim i [ ]
    each [] (x ∷ origins) p o i = absurd p
    each (a ∷ atoms) (x ∷ origins) p o (here e) = subst IsSmallOrigin e (small_origin mappings tables tuple σ a x fit p.0)
    each (a ∷ atoms) (x ∷ origins) p o (there i) = each atoms origins p.1 o i

few_rows : (tables : List Loaded) (t : TableId) → All (λ table. length table.rows ≤ 1_000_000) tables → length (table_rows tables t) ≤ 1_000_000
few_rows tables t few = by (slice_get tables t.0) refl
  where
    by : (o : Option Loaded) → slice_get tables t.0 ≡ o → length (rows_in o) ≤ 1_000_000
    by None is = omega arith
    by (Some table) is = All-In (λ table. length table.rows ≤ 1_000_000) tables few (In-slice_get tables t.0 table is)

pub small_rows : (tables : List Loaded) (ts : List TableId) (rows : List ℕ) → All (λ table. length table.rows ≤ 1_000_000) tables → In rows (product tables ts) → All (λ n. n < 2 ^ 32 - 1) rows
small_rows tables ts rows few m = In-All (λ n. n < 2 ^ 32 - 1) rows (each ts rows ((in_all_tuples tables ts rows).0 m))
  where
    each : (ts : List TableId) (rows : List ℕ) → AreRows tables ts rows → (n : ℕ) → In n rows → n < 2 ^ 32 - 1
    each ts [] h n i = elim i [ ]
    each [] (r ∷ rows) h n i = absurd h
    each (t ∷ ts) (r ∷ rows) h n (here e) = let low = h.0 in let high = few_rows tables t few in omega (arith, low, high, e)
    each (t ∷ ts) (r ∷ rows) h n (there i) = each ts rows h.1 n i

pub one_item : {X : Type 0} (xs : List X) (d : X) → 1 ≤ length xs → length xs < 2 → xs ≡ get_or xs 0 d ∷ []
one_item [] d some few = absurd (omega (arith, some))
one_item (x ∷ []) d some few = refl
one_item (x ∷ y ∷ xs) d some few = absurd (omega (arith, few))

-- the one origin of an atom
module _ (mappings : List Mapping) (tables : List Loaded) (fit : AreFit mappings) (texts : HaveTexts tables) (few : All (λ table. length table.rows ≤ 1_000_000) tables) (a : Atom) (u : Unfolded) (tuple : List ℕ)
    (origins : HasOrigins mappings (atom_query a) u) (asked : In tuple (row_tuples tables u.rows)) where
  given : OriginsGive mappings (atom_query a) u tables tuple
  given = origins tables texts tuple asked

  pub rows_small : All (λ n. n < 2 ^ 32 - 1) tuple
  rows_small = small_rows tables u.rows.query.tables tuple few (from_filter (is_asked tables u.rows) tuple (product tables u.rows.query.tables) asked).0

  pub origin_small : (o : Origin) → u.origins ≡ o ∷ [] → IsSmallOrigin o
  origin_small o only = All-head IsSmallOrigin o [] (subst (All IsSmallOrigin) only (small_origins mappings tables tuple given.terms (a ∷ []) u.origins fit given.facts))

  pub origin_found : (o : Origin) → u.origins ≡ o ∷ [] → (step : Step) → step ≡ origin_step mappings tuple o → IsFound mappings tables a step
  origin_found o only step is =
      let w : OriginGives mappings tables tuple given.terms a o = (subst (Pairwise (OriginGives mappings tables tuple given.terms) (a ∷ [])) only given.facts).0 in
      record {
        mapping = o.mapping + 1;
        target = o.target + 1;
        rows = map (λ n. n + 1) (items_from o.first (table_count (slice_get mappings o.mapping)) tuple);
        is_mapped = is;
        fact = w.fact;
        has = λ axioms earlier. ap (step_fact axioms mappings tables earlier) is ∙ origin_has mappings tables tuple given.terms a o w axioms earlier;
        given = origin_mapped mappings tables tuple given.terms a o w;
        terms = given.terms;
        stands = w.atom;
      }

  -- there is just one
  pub one_origin : ((o : Origin) → u.origins ≡ o ∷ [] → ⊥) → ⊥
  one_origin none = by u.origins refl given.facts
    where
      by : (os : List Origin) → u.origins ≡ os → Pairwise (OriginGives mappings tables tuple given.terms) (a ∷ []) os → ⊥
      by [] is p = p
      by (o ∷ []) is p = none o is
      by (o ∷ q ∷ rest) is p = p.1

-- without a tuple the atom stands for no mapped fact
pub none_stands : (mappings : List Mapping) (tables : List Loaded) (texts : HaveTexts tables) (a : Atom) (list : List Unfolded) → AreUnfoldings mappings (atom_query a) list →
    ((u : Unfolded) → In u list → row_tuples tables u.rows ≡ []) → NoneStands mappings tables a
none_stands mappings tables texts a list are none f σ i stands =
    let g = (are tables texts []).0 (σ, record { atoms = matched; head = tt }) in
    nothing (subst (In g.2) (none g.0 g.1) g.3)
  where
    matched : (b : Atom) → In b (a ∷ []) → (h : _) × In h (mapped_facts mappings tables) × AtomIs σ b h
    matched b (here e) = (f, i, subst (λ z. AtomIs σ z f) e stands)
    matched b (there k) = elim k [ ]

    nothing : {tuple : List ℕ} → In tuple [] → ⊥
    nothing m = elim m [ ]

-- a step of the loop over the row queries
pub none_more : (tables : List Loaded) (list : List Unfolded) (i : ℕ) (u : Unfolded) → i < length list → u ≡ get_or list i u → ((v : Unfolded) → In v (take i list) → row_tuples tables v.rows ≡ []) → row_tuples tables u.rows ≡ [] →
    (v : Unfolded) → In v (take (i + 1) list) → row_tuples tables v.rows ≡ []
none_more tables list i u low is before this = one_more (λ v. row_tuples tables v.rows ≡ []) list i u low is before this
