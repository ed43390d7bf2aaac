-- Row queries of a source that ask for no tuple.
use Rattle.std.proofs.Common.{◌≡◌, refl, sym, ◌∙◌, ap, subst, ℕ, ◌==◌, ◌⊎◌, inl, inr, Bool, true, false, ◌&&◌, List, [], ◌∷◌, Some, All}
use Rattle.std.specs.Prelude.{slice_get}
use Rattle.std.specs.List.{list_all}
use Rattle.std.proofs.lemmas.Bool.{and_parts, eqb-true}
use Rattle.vocabulary.specs.declared.ids.LinkId.{LinkId}
use Rattle.vocabulary.specs.declared.ids.Dir.{Dir}
use Rattle.vocabulary.specs.declared.ids.Dir.TheVariants.{Fwd, Back}
use Rattle.vocabulary.specs.declared.term.Term.{Term}
use Rattle.vocabulary.specs.declared.term.Fact.{Fact}
use Rattle.vocabulary.specs.Lists.{In, here}
use Rattle.source_tables.specs.Tables.{HasKeys, Loaded}
use Rattle.dllite_axioms.specs.Basics.{link_fact}
use Rattle.mapping_facts.specs.declared.mapping.Mapping.{Mapping}
use Rattle.mapping_facts.specs.Fits.{AreFit, HaveTexts}
use Rattle.mapping_facts.specs.RowQueries.{are_apart, is_asked, is_defined, row_tuples}
use Rattle.mapping_facts.specs.Tuples.{cell_of, product, satisfies}
use Rattle.mapping_facts.proofs.Members.{from_filter}
use Rattle.mapping_facts.proofs.Tuples.{AllHold, AreRows, in_all_tuples, satisfies_means}
use Rattle.mapping_unfolding.specs.declared.draft.Origin.{Origin}
use Rattle.mapping_unfolding.specs.declared.unfolded.Unfolded.{Unfolded}
use Rattle.mapping_unfolding.specs.Unfoldings.{HasOrigins}
use Rattle.conflict_checker.specs.declared.derivation.Step.{Step}
use Rattle.conflict_checker.specs.Derivations.{step_fact}
use Rattle.negative_closure.specs.declared.source.Source.{Source}
use Rattle.negative_closure.specs.declared.source.Source.TheVariants.{One, Two, TwoFillers, TwoLinks}
use Rattle.fact_derivation.specs.Finding.{HasFact, origin_step, table_count}
use Rattle.consistency_check.specs.declared.met.Met.{Met}
use Rattle.consistency_check.specs.Asking.{apart_query, source_query}
use Rattle.consistency_check.specs.Meeting.{AreMet, HasSecond, IsMetAt}
use Rattle.consistency_check.specs.Unsatisfiable.{are_one_fact, are_one_row, asks_two_fillers, is_unsatisfiable}
use Rattle.consistency_check.proofs.Meet.{tuple_meets}
use Rattle.consistency_check.proofs.SameRow.{one_step, satisfied}

far_same : (p : LinkId) (d : Dir) (s t u : Term) → link_fact p d s t ≡ link_fact p d s u → t ≡ u
far_same p Fwd s t u e = cc
far_same p Back s t u e = cc

some_is : {X : Type 0} (x y : X) → Some x ≡ Some y → x ≡ y
some_is x y e = cc

none : {X : Type 0} (xs : List X) → ((x : X) → In x xs → ⊥) → xs ≡ []
none [] h = refl
none (x ∷ xs) h = absurd (h x (here refl))

-- a step has one fact
step_once : (mappings : List Mapping) (tables : List Loaded) (s t : Step) (f g : Fact) → s ≡ t → HasFact mappings tables s f → HasFact mappings tables t g → f ≡ g
step_once mappings tables s t f g same h k = some_is f g (sym (h [] []) ∙ ap (step_fact [] mappings tables []) same ∙ k [] [])

module _ (mappings : List Mapping) (tables : List Loaded) (fit : AreFit mappings) (texts : HaveTexts tables) (keys : All HasKeys tables) (s : Source) (u : Unfolded) (origins : HasOrigins mappings (source_query s) u) (apart : u.rows.apart ≡ []) where
  -- two different fillers are not one fact
  not_met : (s : Source) (met : Met) (step : Step) → asks_two_fillers s ≡ true → met.second ≡ Some step → met.first ≡ step → AreMet mappings tables s met → ⊥
  not_met (One x) met step two second same m = cc
  not_met (Two x y) met step two second same m = cc
  not_met (TwoLinks q d p) met step two second same m = cc
  not_met (TwoFillers p d) met step two second same m =
      let has_two : HasFact mappings tables step m.two = subst (λ o. HasSecond mappings tables o m.one m.two) second m.has_two in
      let facts : m.one ≡ m.two = step_once mappings tables met.first step m.one m.two same m.has_one has_two in
      let clash = m.meet in
      clash.7 (far_same p d clash.0 clash.1 clash.2 (sym clash.3 ∙ facts ∙ clash.4))

  module _ (tuple : List ℕ) (m : In tuple (row_tuples tables (apart_query u.rows))) where
    asked : In tuple (product tables u.rows.query.tables) × (is_asked tables (apart_query u.rows) tuple ≡ true)
    asked = from_filter (is_asked tables (apart_query u.rows)) tuple (product tables u.rows.query.tables) m

    are : AreRows tables u.rows.query.tables tuple
    are = (in_all_tuples tables u.rows.query.tables tuple).0 asked.0

    holds : AllHold (cell_of tables u.rows.query.tables tuple) u.rows.query.conditions
    holds =
        let front = and_parts (satisfies tables u.rows.query tuple && list_all (is_defined (cell_of tables u.rows.query.tables tuple)) u.rows.head) (list_all (are_apart (cell_of tables u.rows.query.tables tuple)) (apart_query u.rows).apart) asked.1 in
        (satisfies_means tables u.rows.query tuple).0 (and_parts (satisfies tables u.rows.query tuple) (list_all (is_defined (cell_of tables u.rows.query.tables tuple)) u.rows.head) front.0).0

    not_one : (os : List Origin) → u.origins ≡ os → asks_two_fillers s ≡ true → are_one_fact mappings tables u.rows.query os ≡ true → ⊥
    not_one [] is two one = cc
    not_one (o ∷ []) is two one = cc
    not_one (o ∷ p ∷ r ∷ rest) is two one = cc
    not_one (o ∷ p ∷ []) is two one =
        let w = and_parts ((o.mapping == p.mapping) && (o.target == p.target) && (table_count (slice_get mappings o.mapping) == 1)) (are_one_row tables u.rows.query o.first p.first) one in
        let v = and_parts ((o.mapping == p.mapping) && (o.target == p.target)) (table_count (slice_get mappings o.mapping) == 1) w.0 in
        let z = and_parts (o.mapping == p.mapping) (o.target == p.target) v.0 in
        let met : Met = record { first = origin_step mappings tuple o; second = Some (origin_step mappings tuple p) } in
        let steps : origin_step mappings tuple o ≡ origin_step mappings tuple p =
        one_step tables keys u.rows.query tuple are holds mappings o p (eqb-true o.mapping p.mapping z.0) (eqb-true o.target p.target z.1) (eqb-true (table_count (slice_get mappings o.mapping)) 1 v.1) w.1 in
        not_met s met (origin_step mappings tuple p) two refl steps (tuple_meets mappings tables fit texts s u tuple met origins apart m (subst (λ os. IsMetAt mappings tuple os met) (sym is) (refl, refl)))

    no_tuple : (is_unsatisfiable tables u.rows.query ≡ true) ⊎ ((asks_two_fillers s ≡ true) × (are_one_fact mappings tables u.rows.query u.origins ≡ true)) → ⊥
    no_tuple told = elim told [ inl e ↦ satisfied tables keys u.rows.query tuple are holds e | inr e ↦ not_one u.origins refl e.0 e.1 ]

  pub vain : (is_unsatisfiable tables u.rows.query ≡ true) ⊎ ((asks_two_fillers s ≡ true) × (are_one_fact mappings tables u.rows.query u.origins ≡ true)) → row_tuples tables (apart_query u.rows) ≡ []
  vain told = none (row_tuples tables (apart_query u.rows)) (λ tuple m. no_tuple tuple m told)
