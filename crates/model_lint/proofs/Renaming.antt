-- What one made-up fact leads to, each fact of its element leads to.
use Rattle.std.proofs.Common.{◌≡◌, refl, sym, ◌∙◌, ap, subst, ℕ, zero, suc, List, [], ◌∷◌, ◌++◌, inl, inr, Option, Some, None, if◌then◌else◌}
use Rattle.std.specs.Option.{option_and_then}
use Rattle.std.specs.Prelude.{codes}
use Rattle.vocabulary.specs.declared.ids.LinkId.{LinkId}
use Rattle.vocabulary.specs.declared.ids.Dir.{Dir}
use Rattle.vocabulary.specs.declared.term.Term.{Term, New, New', Named, Value, end_of-Term, more_of-Term}
use Rattle.vocabulary.specs.declared.term.Fact.{Fact}
use Rattle.vocabulary.specs.Lists.{In, here, there, item}
use Rattle.vocabulary.proofs.Fresh.{open_new}
use Rattle.vocabulary.proofs.Lists.{In-append_cases}
use Rattle.vocabulary.proofs.SameTerms.{text_same}
use Rattle.dllite_axioms.specs.declared.axioms.Basic.{Basic}
use Rattle.dllite_axioms.specs.declared.axioms.Basic.TheVariants.{Class as ClassBasic, Has}
use Rattle.dllite_axioms.specs.declared.axioms.Axiom.{Axiom}
use Rattle.dllite_axioms.specs.declared.axioms.Axiom.TheVariants.{Sub, SubLink}
use Rattle.dllite_axioms.specs.declared.axioms.Constraint.{Constraint}
use Rattle.dllite_axioms.specs.declared.axioms.Constraint.TheVariants.{Disjoint, Func, Apart, Identified}
use Rattle.dllite_axioms.specs.Basics.{link_fact, right_side}
use Rattle.dllite_axioms.specs.Chase.{apply_of, chase, Derived, given, step, rule_fact}
use Rattle.dllite_axioms.specs.Clashes.{Clash, IsContradicted}
use Rattle.dllite_axioms.specs.Models.{image}
use Rattle.dllite_axioms.proofs.ChaseLaws.{derived_chase}
use Rattle.dllite_axioms.specs.Chase.{height}
use Rattle.dllite_axioms.proofs.Firing.{some_same, apply_inverse, apply_at, apply_link_inverse, apply_link_at}
use Rattle.negative_closure.specs.Plans.{run_of}
use Rattle.negative_closure.proofs.Places.{In-from_place, only_item}
use Rattle.dllite_axioms.proofs.Models.{image_link, image_match}
use Rattle.dllite_axioms.proofs.Worlds.{one_round}
use Rattle.model_lint.specs.declared.element.Void.{Void}
use Rattle.model_lint.specs.declared.element.Void.TheVariants.{Class, Link}
use Rattle.model_lint.specs.Laws.{ShownIsVoid}
use Rattle.model_lint.specs.Voids.{IsFactOf, made_up}
use Rattle.dllite_axioms.specs.Worlds.{IsDisjointness}

-- the made-up terms become others, and a fresh term that of its renamed parent
abbrev renamed : Term → Term → Term → Term
renamed s t (Named n) = if text_same n (codes "x") then s else (if text_same n (codes "y") then t else Named n)
renamed s t (Value k n) = Value k n
renamed s t (New' p d r (more_of-Term u end_of-Term)) = New p d (renamed s t u)

renamed_new : (s t : Term) (p : LinkId) (d : Dir) (u : Term) → renamed s t (New p d u) ≡ New p d (renamed s t u)
unfolding open_new
renamed_new s t p d u = refl

module _ (s t : Term) where
  abbrev h : Term → Term
  h = renamed s t

  right_image : (r : Basic) (u : Term) → right_side r (h u) ≡ image h (right_side r u)
  right_image (ClassBasic c) u = refl
  right_image (Has p d) u = ap (link_fact p d (h u)) (sym (renamed_new s t p d u)) ∙ image_link h p d u (New p d u)

  apply_image : (ax : Axiom) (f g : Fact) → apply_of ax f ≡ Some g → apply_of ax (image h f) ≡ Some (image h g)
  apply_image (Sub l r) f g e =
      let u = apply_inverse l r f g e in
      apply_at l r (image h f) (h u.0) (image_match h l f u.0 u.1) ∙ ap Some (right_image r u.0 ∙ ap (image h) u.2)
  apply_image (SubLink q d p) f g e =
      let u = apply_link_inverse q d p f g e in
      ap (λ x. apply_of (SubLink q d p) (image h x)) u.2 ∙ apply_link_at q d p (h u.0) (h u.1) ∙ ap Some (image_link h p d u.0 u.1 ∙ ap (image h) u.3)

  derived_image : {axioms : List Axiom} {base facts : List Fact} {f : Fact} → ((g : Fact) → In g base → In (image h g) facts) → Derived axioms base f → Derived axioms facts (image h f)
  derived_image there_too (given m) = given (there_too _ m)
  derived_image {f = f} there_too (step {f = g} ax n e d) = step ax n (apply_image ax g f e) (derived_image there_too d)

  clash_image : (c : Constraint) (f g : Fact) → IsDisjointness c → Clash c (f ∷ g ∷ []) → Clash c (image h f ∷ image h g ∷ [])
  clash_image (Disjoint b c) f g k (u, e, e') = (h u, image_match h b f u e, image_match h c g u e')
  clash_image (Func p d) f g k clash = absurd k
  clash_image (Apart q d p) f g k (u, v, e, e') = (h u, h v, ap (image h) e, ap (image h) e' ∙ sym (image_link h p d u v))
  clash_image (Identified a us) f g k clash = absurd k

-- the steps of a proof are derived
pub item_in : {X : Type 0} (xs : List X) (n : ℕ) {x : X} → item xs n ≡ Some x → In x xs
item_in xs zero e = cc
item_in xs (suc n) e = In-from_place xs n e

then_some : {X Y : Type 0} (k : X → Option Y) (o : Option X) (y : Y) → option_and_then k o ≡ Some y → (x : X) × (o ≡ Some x) × (k x ≡ Some y)
then_some k None y e = cc
then_some k (Some x) y e = (x, refl, e)

run_derived : (axioms : List Axiom) (base steps facts : List Fact) (rules : List (ℕ × ℕ)) → run_of axioms steps rules ≡ Some facts → ((f : Fact) → In f steps → Derived axioms base f) → (f : Fact) → In f facts → Derived axioms base f
run_derived axioms base steps facts [] e all f m = all f (subst (In f) (sym (some_same e)) m)
run_derived axioms base steps facts (rule ∷ rules) e all f m =
    let r = then_some (λ g. run_of axioms (steps ++ g ∷ []) rules) (rule_fact axioms steps rule) facts e in
    let w = then_some (λ ax. option_and_then (apply_of ax) (item steps rule.1)) (item axioms rule.0) r.0 r.1 in
    let v = then_some (apply_of w.0) (item steps rule.1) r.0 w.2 in
    let new : Derived axioms base r.0 = step w.0 (item_in axioms rule.0 w.1) v.2 (all v.0 (item_in steps rule.1 v.1)) in
    run_derived axioms base (steps ++ r.0 ∷ []) facts rules r.2 (λ g m. elim (In-append_cases steps (r.0 ∷ []) m) [ inl k ↦ all g k | inr k ↦ subst (Derived axioms base) (only_item k) new ]) f m

-- so two facts that clash stand in one round
two_clash : {axioms : List Axiom} {facts : List Fact} {f g : Fact} (c : Constraint) → Derived axioms facts f → Derived axioms facts g → Clash c (f ∷ g ∷ []) → IsContradicted axioms facts c
two_clash {axioms} {facts} {f} {g} c d d' clash =
    let r = one_round axioms facts (f ∷ g ∷ []) (λ k m. each m) in
    record { round = r.0; clashing = f ∷ g ∷ []; stand = r.1; clash = clash }
  where
    each : {k : Fact} → In k (f ∷ g ∷ []) → (n : ℕ) × In k (chase axioms facts n)
    each (here e) = (height d, subst (λ x. In x (chase axioms facts (height d))) e (derived_chase d))
    each (there (here e)) = (height d', subst (λ x. In x (chase axioms facts (height d'))) e (derived_chase d'))
    each (there (there m)) = elim m [ ]

-- a fact of the element is an image of the made-up one
fact_image : (v : Void) (f : Fact) → IsFactOf v f → (s t : Term) × (image (renamed s t) (made_up v) ≡ f)
fact_image (Class a) f (s, e) = (s, s, sym e)
fact_image (Link p) f (s, t, e) = (s, t, sym e)

pub shown_is_void : ShownIsVoid
shown_is_void tbox proof shows facts known consistent f m is =
    let w = fact_image proof.what f is in
    let there_too : (g : Fact) → In g (made_up proof.what ∷ []) → In (image (renamed w.0 w.1) g) facts =
    λ g k. subst (λ x. In x facts) (sym w.2 ∙ ap (image (renamed w.0 w.1)) (only_item k)) m in
    let derived : (g : Fact) → In g shows.clash.facts → Derived tbox.axioms facts (image (renamed w.0 w.1) g) =
    λ g k. derived_image w.0 w.1 there_too (run_derived tbox.axioms (made_up proof.what ∷ []) (made_up proof.what ∷ []) shows.clash.facts proof.rules shows.clash.run (λ x n. given n) g k) in
    consistent shows.constraint (item_in tbox.constraints proof.constraint shows.numbered)
    (two_clash shows.constraint (derived shows.clash.first (item_in shows.clash.facts proof.first shows.clash.first_is)) (derived shows.clash.second (item_in shows.clash.facts proof.second shows.clash.second_is))
    (clash_image w.0 w.1 shows.constraint shows.clash.first shows.clash.second shows.disjointness shows.clash.clash))
