-- Rules along chains of axioms have their facts.
use Rattle.std.proofs.Common.{◌≡◌, refl, sym, ◌∙◌, ap, subst, ℕ, suc, ◌+◌, List, [], ◌∷◌, ◌++◌, length, length-append, Some, add-one, arith}
use Rattle.std.specs.Prelude.{option_and_then, slice_get}
use Rattle.vocabulary.specs.declared.ids.LinkId.{LinkId}
use Rattle.vocabulary.specs.declared.ids.Dir.{Dir}
use Rattle.vocabulary.specs.declared.term.Term.{Term}
use Rattle.vocabulary.specs.declared.term.Fact.{Fact}
use Rattle.vocabulary.specs.Lists.{In, here, there, item}
use Rattle.dllite_axioms.specs.declared.axioms.Axiom.{Axiom}
use Rattle.dllite_axioms.specs.declared.axioms.Axiom.TheVariants.{SubLink}
use Rattle.dllite_axioms.specs.declared.axioms.Basic.{Basic}
use Rattle.dllite_axioms.specs.declared.axioms.Basic.TheVariants.{Has}
use Rattle.dllite_axioms.specs.Basics.{link_fact, match_at, turn}
use Rattle.dllite_axioms.specs.Chains.{Leads, by_sub, by_sub_link}
use Rattle.dllite_axioms.specs.Chase.{apply_of, Derived, step}
use Rattle.dllite_axioms.proofs.Links.{apply_turned}
use Rattle.dllite_axioms.proofs.Trace.{leads_to}
use Rattle.source_tables.specs.Tables.{Loaded}
use Rattle.mapping_facts.specs.declared.mapping.Mapping.{Mapping}
use Rattle.mapping_facts.proofs.Members.{In-slice_get}
use Rattle.negative_closure.specs.Chains.{Follows, arrived, onward}
use Rattle.conflict_checker.specs.declared.derivation.Step.TheVariants.{Rule}
use Rattle.conflict_checker.specs.Derivations.{facts_from, step_fact}
use Rattle.fact_derivation.specs.Derivings.{rule_steps}

last_item : {X : Type 0} (xs : List X) (x : X) → item (xs ++ x ∷ []) (length xs + 1) ≡ Some x
last_item {X} xs x = ap (item (xs ++ x ∷ [])) next ∙ at xs
  where
    next : length xs + 1 ≡ suc (length xs)
    next = omega arith

    at : (ys : List X) → slice_get (ys ++ x ∷ []) (length ys) ≡ Some x
    at [] = refl
    at (y ∷ ys) = at ys

same_some : {X : Type 0} (x y : X) → Some x ≡ Some y → x ≡ y
same_some x y e = cc

same_has : (p q : LinkId) (d e : Dir) → Has p d ≡ Has q e → (p ≡ q) × (d ≡ e)
same_has p q d e h = (cc, cc)

-- an axiom between links leads from an end of the one to an end of the other
link_leads : (ax : Axiom) (x y : Basic) → Leads ax x y → (q : LinkId) (d : Dir) (p : LinkId) → ax ≡ SubLink q d p → (e : Dir) × (x ≡ Has q e) × (y ≡ Has p (turn d e))
link_leads ax x y by_sub q d p is = absurd cc
link_leads ax x y (by_sub_link {q = q'} {p = p'} {d = d'} {e = e}) q d p is =
    let one : q' ≡ q = cc in
    let two : d' ≡ d = cc in
    let three : p' ≡ p = cc in
    (e, (λ i. Has (one i) e), (λ i. Has (three i) (turn (two i) e)))

module _ (axioms : List Axiom) (mappings : List Mapping) (tables : List Loaded) (given : List Fact) where
  -- a rule at the last step
  rule_gives : (before : List Fact) (f g : Fact) (k : ℕ) (ax : Axiom) → slice_get axioms k ≡ Some ax → apply_of ax f ≡ Some g →
      step_fact axioms mappings tables (before ++ f ∷ []) (Rule (k + 1) (length before + 1)) ≡ Some g
  rule_gives before f g k ax is gives =
      ap (λ n. option_and_then (λ a. option_and_then (apply_of a) (item (before ++ f ∷ []) (length before + 1))) (item axioms n)) (add-one k)
      ∙ ap (option_and_then (λ a. option_and_then (apply_of a) (item (before ++ f ∷ []) (length before + 1)))) is
      ∙ ap (option_and_then (apply_of ax)) (last_item before f)
      ∙ gives

  -- and the steps behind it
  one_more : (before : List Fact) (f g z : Fact) (k : ℕ) (ax : Axiom) (numbers : List ℕ) → slice_get axioms k ≡ Some ax → apply_of ax f ≡ Some g →
      (more : List Fact) → facts_from axioms mappings tables ((before ++ f ∷ []) ++ g ∷ []) (rule_steps numbers (length (before ++ f ∷ []) + 1)) ≡ Some (more ++ z ∷ []) →
      facts_from axioms mappings tables (before ++ f ∷ []) (rule_steps (k ∷ numbers) (length before + 1)) ≡ Some (more ++ z ∷ [])
  one_more before f g z k ax numbers is gives more rest =
      let long : length before + 1 + 1 ≡ length (before ++ f ∷ []) + 1 = (let e = length-append before (f ∷ []) in omega (arith, e)) in
      ap (option_and_then (λ h. facts_from axioms mappings tables ((before ++ f ∷ []) ++ h ∷ []) (rule_steps numbers (length before + 1 + 1)))) (rule_gives before f g k ax is gives)
      ∙ ap (λ n. facts_from axioms mappings tables ((before ++ f ∷ []) ++ g ∷ []) (rule_steps numbers n)) long ∙ rest

  -- along a chain, from a fact that matches where it begins
  pub climbs : {to x : Basic} {numbers : List ℕ} {passed : List Basic} → Follows axioms to x numbers passed → (before : List Fact) (f : Fact) (t : Term) → match_at x f ≡ Some t → Derived axioms given f →
      (g : Fact) × (match_at to g ≡ Some t) × Derived axioms given g × (more : List Fact) × (facts_from axioms mappings tables (before ++ f ∷ []) (rule_steps numbers (length before + 1)) ≡ Some (more ++ g ∷ []))
  climbs (arrived e) before f t m d = (f, subst (λ b. match_at b f ≡ Some t) e m, d, before, refl)
  climbs (onward {k = k} {numbers = numbers} ax is leads rest) before f t m d =
      let led = leads_to leads f t m in
      let r = climbs rest (before ++ f ∷ []) led.0 t led.2 (step ax (In-slice_get axioms k ax is) led.1 d) in
      (r.0, r.1, r.2, r.3, one_more before f led.0 r.0 k ax numbers is led.1 r.3 r.4)

  -- along links, from a fact with the ends
  pub joins : {to x : Basic} {numbers : List ℕ} {passed : List Basic} → Follows axioms to x numbers passed → ((k : ℕ) → In k numbers → (q : LinkId) × (d : Dir) × (p : LinkId) × (slice_get axioms k ≡ Some (SubLink q d p))) →
      (p : LinkId) (g : Dir) → to ≡ Has p g → (q : LinkId) (e : Dir) → x ≡ Has q e → (before : List Fact) (s t : Term) → Derived axioms given (link_fact q e s t) →
      Derived axioms given (link_fact p g s t) × (more : List Fact) × (facts_from axioms mappings tables (before ++ link_fact q e s t ∷ []) (rule_steps numbers (length before + 1)) ≡ Some (more ++ link_fact p g s t ∷ []))
  joins (arrived a) links p g to_is q e x_is before s t known =
      let same = same_has q p e g (sym x_is ∙ a ∙ to_is) in
      (subst (Derived axioms given) (λ i. link_fact (same.0 i) (same.1 i) s t) known, before, λ i. Some (before ++ link_fact (same.0 i) (same.1 i) s t ∷ []))
  joins (onward {x = x} {y = y} {k = k} {numbers = numbers} ax is leads rest) links p g to_is q e x_is before s t known =
      let l = links k (here refl) in
      let h = link_leads ax x y leads l.0 l.1 l.2 (same_some ax (SubLink l.0 l.1 l.2) (sym is ∙ l.3)) in
      let same = same_has q l.0 e h.0 (sym x_is ∙ h.1) in
      let f : Fact = link_fact l.2 (turn l.1 h.0) s t in
      let gives : apply_of (SubLink l.0 l.1 l.2) (link_fact q e s t) ≡ Some f = ap (apply_of (SubLink l.0 l.1 l.2)) (λ i. link_fact (same.0 i) (same.1 i) s t) ∙ apply_turned l.0 l.1 l.2 h.0 s t in
      let r = joins rest (λ j i. links j (there i)) p g to_is l.2 (turn l.1 h.0) h.2 (before ++ link_fact q e s t ∷ []) s t (step (SubLink l.0 l.1 l.2) (In-slice_get axioms k (SubLink l.0 l.1 l.2) l.3) gives known) in
      (r.0, r.1, one_more before (link_fact q e s t) f (link_fact p g s t) k (SubLink l.0 l.1 l.2) numbers l.3 gives r.1 r.2)
