-- What `shows` tells.
use Rattle.std.proofs.Common.{◌≡◌, ◌↔◌, sym, ◌∙◌, subst, ℕ, List, [], ◌∷◌, Bool, true, Some}
use Rattle.vocabulary.specs.declared.term.Fact.{Fact}
use Rattle.vocabulary.specs.Lists.{item}
use Rattle.dllite_axioms.specs.declared.axioms.Constraint.{Constraint}
use Rattle.dllite_axioms.specs.declared.axioms.Tbox.{Tbox}
use Rattle.dllite_axioms.specs.Clashes.{Clash}
use Rattle.dllite_axioms.proofs.Firing.{some_same}
use Rattle.negative_closure.specs.Plans.{run_of}
use Rattle.model_lint.specs.declared.element.VoidProof.{VoidProof}
use Rattle.model_lint.specs.Voids.{AreClashing, made_up, Shows}
use Rattle.dllite_axioms.specs.Worlds.{IsDisjointness}

pub clashing_told : (c : Constraint) (facts : List Fact) (first second : ℕ) (f g : Fact) (b : Bool) → item facts first ≡ Some f → item facts second ≡ Some g → (b ≡ true) ↔ Clash c (f ∷ g ∷ []) → (b ≡ true) ↔ AreClashing c facts first second
clashing_told c facts first second f g b e e' told = ((λ t. (f, g, e, e', told.0 t)), λ h. told.1 (same h.0 h.1 h.2 h.3 h.4))
  where
    same : (f' g' : Fact) → item facts first ≡ Some f' → item facts second ≡ Some g' → Clash c (f' ∷ g' ∷ []) → Clash c (f ∷ g ∷ [])
    same f' g' h h' k = subst (λ z. Clash c (z ∷ g ∷ [])) (some_same (sym h ∙ e)) (subst (λ z. Clash c (f' ∷ z ∷ [])) (some_same (sym h' ∙ e')) k)

pub shown_told : (tbox : Tbox) (proof : VoidProof) (c : Constraint) (facts : List Fact) (b : Bool) → item tbox.constraints proof.constraint ≡ Some c → IsDisjointness c → run_of tbox.axioms (made_up proof.what ∷ []) proof.rules ≡ Some facts →
    (b ≡ true) ↔ AreClashing c facts proof.first proof.second → (b ≡ true) ↔ Shows tbox proof
shown_told tbox proof c facts b numbered disjoint run told = (to, from)
  where
    to : b ≡ true → Shows tbox proof
    to t =
        let h = told.0 t in
        record {
          constraint = c;
          numbered = numbered;
          disjointness = disjoint;
          clash = record { facts = facts; run = run; first = h.0; second = h.1; first_is = h.2; second_is = h.3; clash = h.4 };
        }

    from : Shows tbox proof → b ≡ true
    from s =
        let same_facts : s.clash.facts ≡ facts = some_same (sym s.clash.run ∙ run) in
        let same_c : s.constraint ≡ c = some_same (sym s.numbered ∙ numbered) in
        told.1 (
          s.clash.first,
          s.clash.second,
          subst (λ z. item z proof.first ≡ Some s.clash.first) same_facts s.clash.first_is,
          subst (λ z. item z proof.second ≡ Some s.clash.second) same_facts s.clash.second_is,
          subst (λ z. Clash z (s.clash.first ∷ s.clash.second ∷ [])) same_c s.clash.clash,
        )
