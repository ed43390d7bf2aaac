-- Saturated mappings are ready to be asked.
use Rattle.std.proofs.Common.{ℕ, zero, suc, ◌≡◌, sym, ◌∙◌, ap, subst, ◌-◌, List, [], ◌∷◌, length, length-append, take, drop, arith}
use Rattle.std.proofs.Math.Seq.{take-append_seam}
use Rattle.std.proofs.lemmas.List.{length-drop}
use Rattle.vocabulary.specs.Lists.{In, there}
use Rattle.dllite_axioms.specs.declared.axioms.Axiom.{Axiom}
use Rattle.dllite_axioms.specs.Within.{IsAxiomWithin}
use Rattle.negative_closure.specs.Chains.{Hierarchy}
use Rattle.mapping_facts.specs.declared.mapping.Mapping.{Mapping}
use Rattle.mapping_facts.specs.Fits.{AreFit, MappingFits}
use Rattle.mapping_facts.proofs.Members.{All-In, In-All}
use Rattle.mapping_saturation.specs.Saturation.{AreSaturated, GiveTheKnown}
use Rattle.certain_answers.specs.Specified.{AreReady}

in_drop : {X : Type 0} (n : ℕ) (xs : List X) {x : X} → In x (drop n xs) → In x xs
in_drop zero xs i = i
in_drop (suc n) [] i = i
in_drop (suc n) (y ∷ xs) i = there (in_drop n xs i)

fit_drop : (n : ℕ) (ms : List Mapping) → AreFit ms → AreFit (drop n ms)
fit_drop n ms fit = record {
  each = In-All MappingFits (drop n ms) (λ m i. All-In MappingFits ms fit.each (in_drop n ms i));
  count = omega (arith, fit.count, length-drop n ms);
}

-- the given mappings stand in front
pub given_front : (axioms : List Axiom) (ms ns : List Mapping) → AreSaturated axioms ms ns → take (length ms) ns ≡ ms
given_front axioms ms ns sat = ap (take (length ms)) sat.are ∙ take-append_seam ms sat.further

pub are_ready : (h : Hierarchy) (ms ns : List Mapping) (n : ℕ) → n ≡ length ms → ((a : Axiom) → In a h.axioms → IsAxiomWithin h.classes h.links a) → AreFit ms → AreFit ns → AreSaturated h.axioms ms ns →
    GiveTheKnown h.axioms ms (drop (length ms) ns) → AreReady h n ns
are_ready h ms ns n is within fit fits sat known =
    rw is (record {
      within = within;
      counted = omega (arith, ap length sat.are ∙ length-append ms sat.further);
      fit = subst AreFit (sym (given_front h.axioms ms ns sat)) fit;
      further_fit = fit_drop (length ms) ns fits;
      known = subst (λ front. GiveTheKnown h.axioms front (drop (length ms) ns)) (sym (given_front h.axioms ms ns sat)) known;
    })
