-- Facts at a tuple of a row query, and that there are none without one.
use Rattle.std.proofs.Common.{◌≡◌, refl, sym, ◌∙◌, ap, subst, ℕ, ◌+◌, ◌<◌, List, [], ◌∷◌, length, take, get_or, inl, inr, Some, None}
use Rattle.std.specs.Prelude.{option_map, slice_get}
use Rattle.std.specs.Option.{option_and_then}
use Rattle.std.proofs.lemmas.List.{take_more}
use Rattle.vocabulary.specs.declared.term.Fact.{Fact}
use Rattle.vocabulary.specs.Lists.{In, here, there, Pairwise}
use Rattle.vocabulary.proofs.Lists.{In-append_cases}
use Rattle.source_tables.specs.Tables.{Loaded}
use Rattle.queries.specs.declared.query.Atom.{Atom}
use Rattle.queries.specs.declared.query.Query.{Query}
use Rattle.queries.specs.Matches.{AtomIs, HeadIs, Terms}
use Rattle.queries.specs.Occurrences.{HeadStands}
use Rattle.mapping_facts.specs.declared.mapping.Mapping.{Mapping}
use Rattle.mapping_facts.specs.Facts.{mapped_facts, mapping_fact}
use Rattle.mapping_facts.specs.Fits.{HaveTexts}
use Rattle.mapping_facts.specs.RowQueries.{row_tuples}
use Rattle.mapping_unfolding.specs.declared.draft.Origin.{Origin}
use Rattle.mapping_unfolding.specs.declared.unfolded.Unfolded.{Unfolded}
use Rattle.mapping_unfolding.specs.Unfoldings.{AreUnfoldings, OriginGives, OriginsGive, items_from}
use Rattle.fact_derivation.proofs.Found.{origin_mapped}
use Rattle.why_answers.specs.Matching.{NoMatch, ReadMapped, origin_fact, origin_facts}

pub no_head : (q : Query) → q.head ≡ [] → HeadStands q
no_head q none x i = let j = subst (In x) none i in elim j [ ]

module _ (mappings : List Mapping) (tables : List Loaded) (tuple : List ℕ) (σ : Terms) where
  gives : (a : Atom) (o : Origin) (w : OriginGives mappings tables tuple σ a o) → origin_fact mappings tables tuple o ≡ Some w.fact
  gives a o w =
      ap (option_and_then (λ m. option_and_then (mapping_fact tables m (items_from o.first (length m.query.tables) tuple)) (slice_get m.targets o.target))) w.names.0
      ∙ ap (option_and_then (mapping_fact tables w.mapping (items_from o.first (length w.mapping.query.tables) tuple))) w.names.1 ∙ w.gives

  -- one fact for each origin
  all_give : (atoms : List Atom) (origins : List Origin) → Pairwise (OriginGives mappings tables tuple σ) atoms origins →
      (fs : List Fact) × (origin_facts mappings tables tuple origins ≡ Some fs) × Pairwise (AtomIs σ) atoms fs × ((f : Fact) → In f fs → In f (mapped_facts mappings tables))
  all_give [] [] p = ([], refl, tt, λ f i. elim i [ ])
  all_give [] (o ∷ origins) p = absurd p
  all_give (a ∷ atoms) [] p = absurd p
  all_give (a ∷ atoms) (o ∷ origins) p =
      let r = all_give atoms origins p.1 in (
        p.0.fact ∷ r.0,
        ap (option_and_then (λ f. option_map (λ fs. f ∷ fs) (origin_facts mappings tables tuple origins))) (gives a o p.0) ∙ ap (option_map (λ fs. p.0.fact ∷ fs)) r.1,
        (p.0.atom, r.2),
        each p.0.fact r.0 (origin_mapped mappings tables tuple σ a o p.0) r.3,
      )
    where
      each : (g : Fact) (fs : List Fact) → In g (mapped_facts mappings tables) → ((f : Fact) → In f fs → In f (mapped_facts mappings tables)) → (f : Fact) → In f (g ∷ fs) → In f (mapped_facts mappings tables)
      each g fs one rest f (here e) = subst (λ h. In h (mapped_facts mappings tables)) e one
      each g fs one rest f (there i) = rest f i

-- the facts at a tuple
pub read_mapped : (mappings : List Mapping) (tables : List Loaded) (tuple : List ℕ) (q : Query) (u : Unfolded) → OriginsGive mappings q u tables tuple → (fs : List Fact) → Some fs ≡ origin_facts mappings tables tuple u.origins → ReadMapped mappings tables q.atoms fs
read_mapped mappings tables tuple q u w fs e =
    let r = all_give mappings tables tuple w.terms q.atoms u.origins w.facts in
    let same : r.0 ≡ fs = some_same (sym (e ∙ r.1)) in
    subst (ReadMapped mappings tables q.atoms) same (record { read = (w.terms, r.2); mapped = r.3 })
  where
    some_same : {a b : List Fact} → Some a ≡ Some b → a ≡ b
    some_same h = cc

-- there are some
pub some_mapped : (mappings : List Mapping) (tables : List Loaded) (tuple : List ℕ) (q : Query) (u : Unfolded) → OriginsGive mappings q u tables tuple → None ≡ origin_facts mappings tables tuple u.origins → ⊥
some_mapped mappings tables tuple q u w e = let r = all_give mappings tables tuple w.terms q.atoms u.origins w.facts in none r.0 (e ∙ r.1)
  where
    none : (fs : List Fact) → None ≡ Some fs → ⊥
    none fs h = cc

-- without a tuple there is no match
pub no_match : (mappings : List Mapping) (tables : List Loaded) → HaveTexts tables → (q : Query) → q.head ≡ [] → (list : List Unfolded) → AreUnfoldings mappings q list → ((u : Unfolded) → In u list → row_tuples tables u.rows ≡ []) → NoMatch (mapped_facts mappings tables) q.atoms
no_match mappings tables texts q none list are empty σ m =
    let g = (are tables texts []).0 (σ, record { atoms = m; head = subst (λ head. HeadIs σ head []) (sym none) tt }) in
    nothing (subst (In g.2) (empty g.0 g.1) g.3)
  where
    nothing : {tuple : List ℕ} → In tuple [] → ⊥
    nothing i = elim i [ ]

-- one row query further
pub one_further : {X : Type 0} (P : X → Type 0) (xs : List X) (i : ℕ) (x : X) → i < length xs → x ≡ get_or xs i x → ((y : X) → In y (take i xs) → P y) → P x → (y : X) → In y (take (i + 1) xs) → P y
one_further P xs i x low is before this y m =
    elim (In-append_cases (take i xs) (get_or xs i x ∷ []) (subst (In y) (take_more xs i x low) m)) [
      | inl j ↦ before y j
      | inr j ↦ elim j [ here e ↦ subst P (is ∙ e) this | there k ↦ elim k [ ] ]
    ]
