-- What no round of the chase holds, and what is derived.
use Rattle.std.proofs.Common.{◌≡◌, refl, sym, ◌∙◌, ap, subst, ℕ, suc, ◌+◌, ◌<◌, ◌≤◌, List, [], ◌∷◌, ◌++◌, length, Some, inl, inr, arith}
use Rattle.std.specs.Prelude.{option_and_then}
use Rattle.vocabulary.specs.declared.ids.ClassId.{ClassId}
use Rattle.vocabulary.specs.declared.ids.LinkId.{LinkId}
use Rattle.vocabulary.specs.declared.ids.Dir.{Dir}
use Rattle.vocabulary.specs.declared.ids.Dir.TheVariants.{Fwd, Back}
use Rattle.vocabulary.specs.declared.term.Term.{Term, New}
use Rattle.vocabulary.specs.declared.term.Fact.{Fact}
use Rattle.vocabulary.specs.declared.term.Fact.TheVariants.{InClass, Linked}
use Rattle.vocabulary.specs.Lists.{In, IsListOf}
use Rattle.vocabulary.specs.Terms.{IsKnown}
use Rattle.dllite_axioms.specs.declared.axioms.Axiom.{Axiom}
use Rattle.dllite_axioms.specs.declared.axioms.Basic.{Basic}
use Rattle.dllite_axioms.specs.declared.axioms.Basic.TheVariants.{Class}
use Rattle.dllite_axioms.specs.Basics.{link_fact}
use Rattle.dllite_axioms.specs.Chains.{Chain, Under}
use Rattle.dllite_axioms.specs.Chase.{Derived, given, height}
use Rattle.dllite_axioms.proofs.ChaseLaws.{chase_derived, derived_chase}
use Rattle.dllite_axioms.proofs.Firing.{class_match, match_class}
use Rattle.dllite_axioms.proofs.Links.{from_birth, from_given, link_trace}
use Rattle.dllite_axioms.proofs.Origins.{same_linked}
use Rattle.dllite_axioms.proofs.Trace.{trace}
use Rattle.dllite_axioms.proofs.Turning.{turn_fwd}
use Rattle.source_tables.specs.Tables.{Loaded}
use Rattle.mapping_facts.specs.declared.mapping.Mapping.{Mapping}
use Rattle.mapping_facts.specs.Facts.{mapped_facts}
use Rattle.negative_closure.specs.Chains.{IsLinkPath, IsPath, IsUnder}
use Rattle.negative_closure.specs.Short.{IsUnturned}
use Rattle.negative_closure.specs.Order.{basic_cmp, end_cmp}
use Rattle.conflict_checker.specs.declared.derivation.Step.{Step}
use Rattle.conflict_checker.specs.Derivations.{facts_from}
use Rattle.fact_derivation.specs.Asking.{basic_atom, link_atom}
use Rattle.fact_derivation.specs.Derivings.{IsDeriving, IsUnderivable, NoneBelow, NoneUnder, rule_steps}
use Rattle.fact_derivation.specs.Finding.{HasFact, IsFound, NoneStands}
use Rattle.fact_derivation.proofs.Atoms.{basic_back, basic_is, link_back, link_is}
use Rattle.fact_derivation.proofs.Climbing.{climbs, joins}

known_new : (t : Term) (p : LinkId) (d : Dir) (s : Term) → IsKnown t → t ≡ New p d s → ⊥
known_new t p d s known e = subst IsKnown e known

-- the same ends, of a link and of one that is under it
ends_same : (q' q : LinkId) (e : Dir) (a b s t : Term) → link_fact q e a b ≡ Linked q s t → Linked q' a b ≡ link_fact q' e s t
ends_same q' q Fwd a b s t h = let w = same_linked h in λ i. Linked q' (w.1 i) (w.2 i)
ends_same q' q Back a b s t h = let w = same_linked h in λ i. Linked q' (w.2 i) (w.1 i)

not_born : (q : LinkId) (e : Dir) (u : Term) (r : LinkId) (d : Dir) (s t : Term) → link_fact q e u (New r d u) ≡ Linked q s t → IsKnown s → IsKnown t → ⊥
not_born q Fwd u r d s t h ks kt = let w = same_linked h in known_new t r d u kt (sym w.2)
not_born q Back u r d s t h ks kt = let w = same_linked h in known_new s r d u ks (sym w.1)

module _ (axioms : List Axiom) (mappings : List Mapping) (tables : List Loaded) where
  pub none_of_class : (class : ClassId) (t : Term) (below : List Basic) → IsKnown t → IsListOf basic_cmp (λ x. Chain axioms x (Class class)) below →
      ((x : Basic) → In x below → NoneBelow axioms mappings tables (Class class) t x) → IsUnderivable axioms mappings tables (InClass class t)
  none_of_class class t below known listed none k i =
      elim (trace (chase_derived axioms (mapped_facts mappings tables) k i) (Class class) t (match_class class t)) [
        | inl o ↦ none o.basic (listed.all o.basic o.chain) o.fact o.is_given o.matches o.chain
        | inr o ↦ known_new t o.p o.d o.s known o.is_new
      ]

  pub none_of_link : (link : LinkId) (s t : Term) (under : List (LinkId × Dir)) → IsKnown s → IsKnown t → IsListOf end_cmp (λ end. IsUnder axioms end (link, Fwd)) under →
      ((x : LinkId × Dir) → In x under → NoneUnder axioms mappings tables link s t x) → IsUnderivable axioms mappings tables (Linked link s t)
  none_of_link link s t under ks kt listed none k i =
      elim (link_trace link s t (chase_derived axioms (mapped_facts mappings tables) k i) refl) [
        | from_given q e a b m w o ↦ above q e a b m w o
        | from_birth r d u e born w o ↦ not_born link e u r d s t o ks kt
      ]
    where
      above : (q : LinkId) (e : Dir) (a b : Term) → In (Linked q a b) (mapped_facts mappings tables) → Under axioms q e link → link_fact link e a b ≡ Linked link s t → ⊥
      above q e a b m w o =
          let is : IsUnder axioms (q, e) (link, Fwd) = subst (λ d. Under axioms q d link) (sym (turn_fwd e)) w in
          none (q, e) (listed.all (q, e) is) (subst (λ f. In f (mapped_facts mappings tables)) (ends_same q link e a b s t o) m) is

  -- nothing asked, nothing below
  pub none_below : (class : ClassId) (t : Term) (from : Basic) → NoneStands mappings tables (basic_atom from t) → NoneBelow axioms mappings tables (Class class) t from
  none_below class t from none f i m c = none f (λ v. t) i (basic_is (λ v. t) from f t m)

  pub none_under : (link : LinkId) (s t : Term) (from : LinkId × Dir) → NoneStands mappings tables (link_atom from.0 from.1 s t) → NoneUnder axioms mappings tables link s t from
  none_under link s t from none i u = none (link_fact from.0 from.1 s t) (λ v. t) i (link_is (λ v. t) from.0 from.1 s t)

  -- the rules behind a mapped step
  begun : (step : Step) (f g : Fact) (numbers : List ℕ) (more : List Fact) → HasFact mappings tables step f → facts_from axioms mappings tables (f ∷ []) (rule_steps numbers 1) ≡ Some (more ++ g ∷ []) →
      facts_from axioms mappings tables [] (step ∷ rule_steps numbers 1) ≡ Some (more ++ g ∷ [])
  begun step f g numbers more has rest = ap (option_and_then (λ h. facts_from axioms mappings tables (h ∷ []) (rule_steps numbers 1))) (has axioms []) ∙ rest

  is_derived : (a : _) (step : Step) (found : IsFound mappings tables a step) (numbers : List ℕ) (g : Fact) (more : List Fact) (steps : List Step) → length numbers < 1600 → steps ≡ step ∷ rule_steps numbers 1 →
      Derived axioms (mapped_facts mappings tables) g → facts_from axioms mappings tables (found.fact ∷ []) (rule_steps numbers 1) ≡ Some (more ++ g ∷ []) → IsDeriving axioms mappings tables g steps
  is_derived a step found numbers g more steps few are derived rest = record {
    mapping = found.mapping;
    target = found.target;
    rows = found.rows;
    numbers = numbers;
    are = are ∙ ap (λ s. s ∷ rule_steps numbers 1) found.is_mapped;
    few = omega (arith, few);
    before = more;
    facts = ap (facts_from axioms mappings tables []) are ∙ begun step found.fact g numbers more found.has rest;
    round = height derived;
    stands = derived_chase derived;
  }

  pub class_derived : (class : ClassId) (t : Term) (from : Basic) (step : Step) (numbers : List ℕ) (steps : List Step) → IsFound mappings tables (basic_atom from t) step → IsPath axioms from (Class class) numbers → length numbers < 1600 →
      steps ≡ step ∷ rule_steps numbers 1 → IsDeriving axioms mappings tables (InClass class t) steps
  class_derived class t from step numbers steps found path few are =
      let r = climbs axioms mappings tables (mapped_facts mappings tables) path.follows [] found.fact t (basic_back found.terms from t found.fact found.stands) (given found.given) in
      let is : r.0 ≡ InClass class t = class_match class r.0 t r.1 in
      let rest = subst (λ g. facts_from axioms mappings tables (found.fact ∷ []) (rule_steps numbers 1) ≡ Some (r.3 ++ g ∷ [])) is r.4 in
      is_derived (basic_atom from t) step found numbers (InClass class t) r.3 steps few are (subst (Derived axioms (mapped_facts mappings tables)) is r.2) rest

  pub link_derived : (link : LinkId) (s t : Term) (from : LinkId × Dir) (step : Step) (numbers : List ℕ) (steps : List Step) → IsFound mappings tables (link_atom from.0 from.1 s t) step → IsLinkPath axioms from (link, Fwd) numbers →
      length numbers < 1600 → steps ≡ step ∷ rule_steps numbers 1 → IsDeriving axioms mappings tables (Linked link s t) steps
  link_derived link s t from step numbers steps found path few are =
      let f : found.fact ≡ link_fact from.0 from.1 s t = link_back found.terms from.0 from.1 s t found.fact found.stands in
      let r = joins axioms mappings tables (mapped_facts mappings tables) path.path.follows path.between_links link Fwd refl from.0 from.1 refl [] s t (subst (Derived axioms (mapped_facts mappings tables)) f (given found.given)) in
      let rest = subst (λ g. facts_from axioms mappings tables (g ∷ []) (rule_steps numbers 1) ≡ Some (r.1 ++ Linked link s t ∷ [])) (sym f) r.2 in
      is_derived (link_atom from.0 from.1 s t) step found numbers (Linked link s t) r.1 steps few are r.0 rest

-- one step for each rule
rules_counted : (numbers : List ℕ) (j : ℕ) → length (rule_steps numbers j) ≡ length numbers
rules_counted [] j = refl
rules_counted (k ∷ numbers) j = ap suc (rules_counted numbers (j + 1))

pub link_short : (axioms : List Axiom) (link : LinkId) (step : Step) (numbers : List ℕ) (steps : List Step) → steps ≡ step ∷ rule_steps numbers 1 → (IsUnturned axioms link → length numbers < 600) → IsUnturned axioms link → length steps ≤ 601
link_short axioms link step numbers steps are short unturned = omega (arith, short unturned, ap length are, rules_counted numbers 1)
