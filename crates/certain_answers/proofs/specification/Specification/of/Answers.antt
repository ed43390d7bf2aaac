-- By `Readying`.
use Rattle.std.proofs.Common.{refl, sym, subst}
use Rattle.vocabulary.specs.Lists.{In}
use Rattle.dllite_axioms.specs.declared.axioms.Axiom.{Axiom}
use Rattle.dllite_axioms.specs.Within.{IsAxiomWithin}
use Rattle.negative_closure.specs.Chains.{Hierarchy}
use Rattle.certain_answers.proofs.Readying.{are_ready}
use Rattle.certain_answers.proofs.specification.Specification.of.Goals as goal

pub invariant_of-result : goal.invariant_of-result
invariant_of-result c =
    let within = subst (λ (h : Hierarchy). (a : Axiom) → In a h.axioms → IsAxiomWithin h.classes h.links a) (sym c.in_ok-downs.ensures) c.requires.within in
    are_ready c.in_ok-downs.downs c.args.mappings.now c.in_ok-saturated.saturated _ refl within c.requires.fit c.in_ok-saturated.ensures.fit c.in_ok-saturated.ensures.saturated c.in_ok-saturated.ensures.further
