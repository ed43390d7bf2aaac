-- Sources that the mapped facts meet.
use Rattle.std.proofs.Common.{◌≡◌, ◌≢◌, refl, sym, ◌∙◌, ap, subst, ℕ, ◌<◌, ◌≤◌, ◌-◌, ◌^◌, Bool, true, false, if◌then◌else◌, List, [], ◌∷◌, ◌++◌, ◌+◌, length, take, get_or, inl, inr, All, arith}
use Rattle.std.proofs.lemmas.List.{take_more}
use Rattle.vocabulary.proofs.Lists.{In-append_cases}
use Rattle.vocabulary.proofs.Members.{In-from_Contains}
use Rattle.std.proofs.lemmas.List.Elements.{All-cons, All-head, All-nil, All-tail}
use Rattle.vocabulary.specs.declared.ids.LinkId.{LinkId}
use Rattle.vocabulary.specs.declared.ids.Dir.{Dir}
use Rattle.vocabulary.specs.declared.ids.Dir.TheVariants.{Fwd, Back}
use Rattle.vocabulary.specs.declared.term.Term.{Term}
use Rattle.vocabulary.specs.declared.term.Fact.{Fact}
use Rattle.vocabulary.specs.Lists.{In, here, there, Pairwise}
use Rattle.vocabulary.specs.Terms.{IsKnown, IsKnownFact}
use Rattle.source_tables.specs.Tables.{Loaded}
use Rattle.dllite_axioms.specs.declared.axioms.Basic.{Basic}
use Rattle.dllite_axioms.specs.Basics.{link_fact}
use Rattle.queries.specs.declared.query.Atom.{Atom}
use Rattle.queries.specs.Matches.{AtomIs, IsMatch, Terms}
use Rattle.mapping_facts.specs.declared.mapping.Mapping.{Mapping}
use Rattle.mapping_facts.specs.declared.query.RowQuery.{RowQuery}
use Rattle.mapping_facts.specs.declared.term.RowTerm.{RowTerm}
use Rattle.mapping_facts.specs.Facts.{mapped_facts}
use Rattle.mapping_facts.specs.Fits.{AreFit, HaveTexts, RowQueryFits, TermFits}
use Rattle.mapping_facts.specs.RowQueries.{is_asked, row_tuples}
use Rattle.mapping_facts.specs.Tuples.{cell_of, product}
use Rattle.mapping_facts.proofs.Heads.{HeadAt, terms_are}
use Rattle.mapping_facts.proofs.Members.{from_filter}
use Rattle.mapping_facts.proofs.Tuples.{CellsAt}
use Rattle.mapping_unfolding.specs.declared.draft.Origin.{Origin}
use Rattle.mapping_unfolding.specs.declared.unfolded.Unfolded.{Unfolded}
use Rattle.mapping_unfolding.specs.Unfoldings.{AreUnfoldings, HasOrigins, OriginGives}
use Rattle.conflict_checker.specs.declared.derivation.Step.{Step}
use Rattle.conflict_checker.specs.Derivations.{step_fact}
use Rattle.negative_closure.specs.declared.source.Source.{Source}
use Rattle.negative_closure.specs.declared.source.Source.TheVariants.{One, Two, TwoFillers, TwoLinks}
use Rattle.negative_closure.specs.Sources.{IsMetBy, Meets}
use Rattle.consistency_check.specs.declared.met.Met.{Met}
use Rattle.consistency_check.specs.Asking.{apart_query, pair_of, row_side, side_same, basic_atom, link_atom, source_atoms, source_query, var}
use Rattle.consistency_check.specs.Meeting.{AreMet, HasSecond, IsMetAt}
use Rattle.fact_derivation.specs.Finding.{HasFact, origin_step}
use Rattle.consistency_check.proofs.Apart.{DifferAt, DifferentTerms, apart_tuple, tuple_apart}
use Rattle.consistency_check.proofs.Atoms.{basic_back, basic_is, link_back, link_is, three}
use Rattle.fact_derivation.proofs.Found.{IsSmallOrigin, origin_has, origin_mapped, small_origins, small_rows}
use Rattle.consistency_check.proofs.Known.{mapped_known}

far_known : (p : LinkId) (d : Dir) (s t : Term) (f : Fact) → f ≡ link_fact p d s t → IsKnownFact f → IsKnown t
far_known p Fwd s t f e known = let k : IsKnownFact (link_fact p Fwd s t) = subst IsKnownFact e known in k.1
far_known p Back s t f e known = let k : IsKnownFact (link_fact p Back s t) = subst IsKnownFact e known in k.0

differ_at : (c : CellsAt) (head : List RowTerm) (t u : Term) → HeadAt c head (t ∷ u ∷ []) → DifferAt c head → IsKnown t → IsKnown u → t ≢ u
differ_at c [] t u h d kt ku = absurd h
differ_at c (r ∷ []) t u h d kt ku = absurd h.1
differ_at c (r ∷ s ∷ []) t u h d kt ku = d t u kt ku h.0 h.1.0
differ_at c (r ∷ s ∷ x ∷ rest) t u h d kt ku = absurd h.1.1

-- a match of the source's query, at terms that differ
pub record Asked (facts : List Fact) (s : Source) : Type 0 where
  pub terms : Terms
  pub tuple : List Term
  pub matched : IsMatch facts (source_query s) tuple terms
  pub differ : DifferentTerms tuple

both : (facts : List Fact) (f g : Fact) → In f facts → In g facts → (a b : Atom) (σ : Terms) → AtomIs σ a f → AtomIs σ b g → (c : Atom) → In c (a ∷ b ∷ []) → (h : Fact) × In h facts × AtomIs σ c h
both facts f g mf mg a b σ one two c (here e) = (f, mf, subst (λ z. AtomIs σ z f) e one)
both facts f g mf mg a b σ one two c (there (here e)) = (g, mg, subst (λ z. AtomIs σ z g) e two)
both facts f g mf mg a b σ one two c (there (there i)) = elim i [ ]

single : (facts : List Fact) (f : Fact) → In f facts → (a : Atom) (σ : Terms) → AtomIs σ a f → (c : Atom) → In c (a ∷ []) → (h : Fact) × In h facts × AtomIs σ c h
single facts f mf a σ is c (here e) = (f, mf, subst (λ z. AtomIs σ z f) e is)
single facts f mf a σ is c (there i) = elim i [ ]

asked : (facts : List Fact) (s : Source) (f g : Fact) → In f facts → In g facts → IsMetBy s f g → Asked facts s
asked facts (One x) f g mf mg met =
    let r = basic_is x f met.1.0 met.1.1 in
    record {
      terms = three met.1.0 r.0 r.0;
      tuple = [];
      matched = record { atoms = λ a i. single facts f mf (basic_atom x 1) (three met.1.0 r.0 r.0) (r.1 (three met.1.0 r.0 r.0) 1 refl refl) a i; head = tt };
      differ = tt;
    }
asked facts (Two x y) f g mf mg met =
    let r = basic_is x f met.0 met.1 in
    let r' = basic_is y g met.0 met.2 in
    record {
      terms = three met.0 r.0 r'.0;
      tuple = [];
      matched = record { atoms = λ a i. both facts f g mf mg (basic_atom x 1) (basic_atom y 2) (three met.0 r.0 r'.0) (r.1 (three met.0 r.0 r'.0) 1 refl refl) (r'.1 (three met.0 r.0 r'.0) 2 refl refl) a i; head = tt };
      differ = tt;
    }
asked facts (TwoFillers p d) f g mf mg (s, t, u, e, e', kt, ku, apart) =
    let one = subst (AtomIs (three s t u) (link_atom p d 1)) (sym e) (link_is (three s t u) p d s t 1 refl refl) in
    let two = subst (AtomIs (three s t u) (link_atom p d 2)) (sym e') (link_is (three s t u) p d s u 2 refl refl) in
    record {
      terms = three s t u;
      tuple = t ∷ u ∷ [];
      matched = record { atoms = λ a i. both facts f g mf mg (link_atom p d 1) (link_atom p d 2) (three s t u) one two a i; head = (refl, (refl, tt)) };
      differ = (kt, ku, apart);
    }
asked facts (TwoLinks q d p) f g mf mg (s, t, e, e') =
    let one = subst (AtomIs (three s t t) (link_atom q Fwd 1)) (sym e) (link_is (three s t t) q Fwd s t 1 refl refl) in
    let two = subst (AtomIs (three s t t) (link_atom p d 1)) (sym e') (link_is (three s t t) p d s t 1 refl refl) in
    record {
      terms = three s t t;
      tuple = [];
      matched = record { atoms = λ a i. both facts f g mf mg (link_atom q Fwd 1) (link_atom p d 1) (three s t t) one two a i; head = tt };
      differ = tt;
    }

some_origin : (R : Atom → Origin → Type 0) (s : Source) (origins : List Origin) → Pairwise R (source_atoms s) origins → 1 ≤ length origins
some_origin R (One x) [] p = absurd p
some_origin R (Two x y) [] p = absurd p
some_origin R (TwoFillers p d) [] q = absurd q
some_origin R (TwoLinks r d p) [] q = absurd q
some_origin R s (o ∷ origins) p = omega arith

module _ (mappings : List Mapping) (tables : List Loaded) (fit : AreFit mappings) (texts : HaveTexts tables) where
  -- without a tuple no facts meet the source
  pub none_meet : (s : Source) (list : List Unfolded) → AreUnfoldings mappings (source_query s) list → ((u : Unfolded) → In u list → row_tuples tables (apart_query u.rows) ≡ []) → Meets (mapped_facts mappings tables) s → ⊥
  none_meet s list are none met =
      let a = asked (mapped_facts mappings tables) s met.0 met.1 met.2 met.3 met.4 in
      let given = (are tables texts a.tuple).0 (a.terms, a.matched) in
      let m = tuple_apart tables given.0.rows given.2 a.tuple given.3 ((terms_are (cell_of tables given.0.rows.query.tables given.2) given.0.rows.head a.tuple).0 given.4) a.differ in
      nothing (subst (In given.2) (none given.0 given.1) m)
    where
      nothing : {tuple : List ℕ} → In tuple [] → ⊥
      nothing i = elim i [ ]

  module _ (tuple : List ℕ) (σ : Terms) where
    abbrev Gives : Atom → Origin → Type 0
    Gives a o = OriginGives mappings tables tuple σ a o

    -- the step of an origin
    has : (step : Step) (a : Atom) (o : Origin) (w : Gives a o) → step ≡ origin_step mappings tuple o → HasFact mappings tables step w.fact
    has step a o w is axioms earlier = ap (step_fact axioms mappings tables earlier) is ∙ origin_has mappings tables tuple σ a o w axioms earlier

    one_met : (x : Basic) (origins : List Origin) (met : Met) → Pairwise (OriginGives mappings tables tuple σ) (basic_atom x 1 ∷ []) origins → IsMetAt mappings tuple origins met → AreMet mappings tables (One x) met
    one_met x [] met p at = absurd p
    one_met x (o ∷ q ∷ rest) met p at = absurd p.1
    one_met x (o ∷ []) met p at = record {
      one = p.0.fact;
      two = p.0.fact;
      has_one = has met.first (basic_atom x 1) o p.0 at.0;
      has_two = subst (λ s. HasSecond mappings tables s p.0.fact p.0.fact) (sym at.1) refl;
      given_one = origin_mapped mappings tables tuple σ (basic_atom x 1) o p.0;
      given_two = origin_mapped mappings tables tuple σ (basic_atom x 1) o p.0;
      meet = (refl, (σ (var 0), basic_back σ x 1 p.0.fact p.0.atom));
    }

    -- two facts for two atoms
    pub record Both (a b : Atom) (met : Met) : Type 0 where
      pub one : Fact
      pub two : Fact
      pub has_one : HasFact mappings tables met.first one
      pub has_two : HasSecond mappings tables met.second one two
      pub atom_one : AtomIs σ a one
      pub atom_two : AtomIs σ b two
      pub mapped_one : In one (mapped_facts mappings tables)
      pub mapped_two : In two (mapped_facts mappings tables)

    both_met : (a b : Atom) (origins : List Origin) (met : Met) → Pairwise (OriginGives mappings tables tuple σ) (a ∷ b ∷ []) origins → IsMetAt mappings tuple origins met → Both a b met
    both_met a b [] met p at = absurd p
    both_met a b (o ∷ []) met p at = absurd p.1
    both_met a b (o ∷ q ∷ r ∷ rest) met p at = absurd p.1.1
    both_met a b (o ∷ q ∷ []) met p at = record {
      one = p.0.fact;
      two = p.1.0.fact;
      has_one = has met.first a o p.0 at.0;
      has_two = subst (λ s. HasSecond mappings tables s p.0.fact p.1.0.fact) (sym at.1) (origin_has mappings tables tuple σ b q p.1.0);
      atom_one = p.0.atom;
      atom_two = p.1.0.atom;
      mapped_one = origin_mapped mappings tables tuple σ a o p.0;
      mapped_two = origin_mapped mappings tables tuple σ b q p.1.0;
    }

  -- at a tuple the steps of its origins meet the source
  pub tuple_meets : (s : Source) (u : Unfolded) (tuple : List ℕ) (met : Met) → HasOrigins mappings (source_query s) u → u.rows.apart ≡ [] → In tuple (row_tuples tables (apart_query u.rows)) → IsMetAt mappings tuple u.origins met → AreMet mappings tables s met
  tuple_meets (One x) u tuple met origins none m at =
      let a = apart_tuple tables u.rows tuple none m in
      let g = origins tables texts tuple a.0 in
      one_met tuple g.terms x u.origins met g.facts at
  tuple_meets (Two x y) u tuple met origins none m at =
      let a = apart_tuple tables u.rows tuple none m in
      let g = origins tables texts tuple a.0 in
      let b = both_met tuple g.terms (basic_atom x 1) (basic_atom y 2) u.origins met g.facts at in
      record { one = b.one; two = b.two; has_one = b.has_one; has_two = b.has_two; given_one = b.mapped_one; given_two = b.mapped_two; meet = (g.terms (var 0), basic_back g.terms x 1 b.one b.atom_one, basic_back g.terms y 2 b.two b.atom_two) }
  tuple_meets (TwoFillers p d) u tuple met origins none m at =
      let a = apart_tuple tables u.rows tuple none m in
      let g = origins tables texts tuple a.0 in
      let b = both_met tuple g.terms (link_atom p d 1) (link_atom p d 2) u.origins met g.facts at in
      let known = mapped_known mappings tables fit in
      let one = link_back g.terms p d 1 b.one b.atom_one in
      let two = link_back g.terms p d 2 b.two b.atom_two in
      let kt = far_known p d (g.terms (var 0)) (g.terms (var 1)) b.one one (known b.one b.mapped_one) in
      let ku = far_known p d (g.terms (var 0)) (g.terms (var 2)) b.two two (known b.two b.mapped_two) in
      let head = (terms_are (cell_of tables u.rows.query.tables tuple) u.rows.head (g.terms (var 1) ∷ g.terms (var 2) ∷ [])).0 ((g.head (g.terms (var 1) ∷ g.terms (var 2) ∷ [])).1 (refl, (refl, tt))) in
      let apart = differ_at (cell_of tables u.rows.query.tables tuple) u.rows.head (g.terms (var 1)) (g.terms (var 2)) head a.1 kt ku in
      record { one = b.one; two = b.two; has_one = b.has_one; has_two = b.has_two; given_one = b.mapped_one; given_two = b.mapped_two; meet = (g.terms (var 0), g.terms (var 1), g.terms (var 2), one, two, kt, ku, apart) }
  tuple_meets (TwoLinks q d p) u tuple met origins none m at =
      let a = apart_tuple tables u.rows tuple none m in
      let g = origins tables texts tuple a.0 in
      let b = both_met tuple g.terms (link_atom q Fwd 1) (link_atom p d 1) u.origins met g.facts at in
      record { one = b.one; two = b.two; has_one = b.has_one; has_two = b.has_two; given_one = b.mapped_one; given_two = b.mapped_two; meet = (g.terms (var 0), g.terms (var 1), link_back g.terms q Fwd 1 b.one b.atom_one, link_back g.terms p d 1 b.two b.atom_two) }

  -- what a tuple's steps ask for: an origin, and numbers that fit
  pub tuple_ready : (s : Source) (u : Unfolded) (tuple : List ℕ) → All (λ table. length table.rows ≤ 1_000_000) tables → HasOrigins mappings (source_query s) u → u.rows.apart ≡ [] → In tuple (row_tuples tables (apart_query u.rows)) →
      (1 ≤ length u.origins) × All (λ n. n < 2 ^ 32 - 1) tuple × All IsSmallOrigin u.origins
  tuple_ready s u tuple few origins none m =
      let a = apart_tuple tables u.rows tuple none m in
      let g = origins tables texts tuple a.0 in (
        some_origin (OriginGives mappings tables tuple g.terms) s u.origins g.facts,
        small_rows tables u.rows.query.tables tuple few (from_filter (is_asked tables u.rows) tuple (product tables u.rows.query.tables) a.0).0,
        small_origins mappings tables tuple g.terms (source_atoms s) u.origins fit g.facts,
      )

-- the row query with its pair fits
abbrev PairFits : ℕ → RowTerm × RowTerm → Type 0
PairFits n pair = TermFits n pair.0 × TermFits n pair.1

chosen : (n : ℕ) (r s : RowTerm) (b : Bool) → All (TermFits n) (r ∷ s ∷ []) → All (PairFits n) (if b then (r, s) ∷ [] else [])
chosen n r s false all = All-nil (PairFits n)
chosen n r s true all = All-cons (PairFits n) (r, s) [] (All-head (TermFits n) r (s ∷ []) all, All-head (TermFits n) s [] (All-tail (TermFits n) r (s ∷ []) all)) (All-nil (PairFits n))

pair_fits : (n : ℕ) (head : List RowTerm) → All (TermFits n) head → All (PairFits n) (pair_of head)
pair_fits n [] all = All-nil (PairFits n)
pair_fits n (r ∷ []) all = All-nil (PairFits n)
pair_fits n (r ∷ s ∷ []) all = chosen n r s (side_same (row_side r) (row_side s)) all
pair_fits n (r ∷ s ∷ x ∷ rest) all = All-nil (PairFits n)

pub apart_fits : (q : RowQuery) → RowQueryFits q → RowQueryFits (apart_query q)
apart_fits q fits = record { query = fits.query; head = fits.head; apart = pair_fits (length q.query.tables) q.head fits.head }

-- an item of a list
pub item_listed : {X : Type 0} (xs items : List X) (i : ℕ) (x : X) → items ≡ xs → i < length items → x ≡ get_or items i x → In x xs
item_listed xs items i x same low is = subst (In x) same (In-from_Contains items (i, low, sym is))

-- no row query so far has a tuple
pub none_more : (tables : List Loaded) (items : List Unfolded) (i : ℕ) (u : Unfolded) → i < length items → u ≡ get_or items i u → ((z : Unfolded) → In z (take i items) → row_tuples tables (apart_query z.rows) ≡ []) →
    row_tuples tables (apart_query u.rows) ≡ [] → (z : Unfolded) → In z (take (i + 1) items) → row_tuples tables (apart_query z.rows) ≡ []
none_more tables items i u low is before here_none z m =
    elim (In-append_cases (take i items) (u ∷ []) (subst (In z) (take_more items i u low ∙ ap (λ x. take i items ++ x ∷ []) (sym is)) m)) [ inl k ↦ before z k | inr k ↦ only k ]
  where
    only : In z (u ∷ []) → row_tuples tables (apart_query z.rows) ≡ []
    only (here e) = subst (λ x. row_tuples tables (apart_query x.rows) ≡ []) e here_none
    only (there k) = elim k [ ]
