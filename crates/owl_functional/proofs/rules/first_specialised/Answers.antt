use Rattle.std.proofs.Common.{sym, ap, ◌∙◌}
use Rattle.owl_functional.specs.Rules.{specialised_in, first_specialised}
use Rattle.owl_functional.proofs.Lists.{special_here, special_later, special_none}
use Rattle.owl_functional.proofs.rules.first_specialised.Goals as goal

pub returns-in-Some : goal.returns-in-Some
returns-in-Some c = special_here (first_specialised c.args.axioms.now c.args.axioms.now) c.args.axioms.now c.loop-axiom.axiom-index c.loop-axiom.invariant c.axiom-item.result c.loop-axiom-test.true c.axiom-item.is c.in-Some.fault (ap (λ xs. specialised_in xs c.axiom-item.result) (sym c.requires) ∙ sym c.specialised.ensures ∙ c.in-Some.is)

pub loop-axiom-preserved : goal.loop-axiom-preserved
loop-axiom-preserved c = special_later (first_specialised c.args.axioms.now c.args.axioms.now) c.args.axioms.now c.loop-axiom.axiom-index c.loop-axiom.invariant c.axiom-item.result c.loop-axiom-test.true c.axiom-item.is (ap (λ xs. specialised_in xs c.axiom-item.result) (sym c.requires) ∙ sym c.specialised.ensures ∙ c.in_default.is)

pub returns : goal.returns
returns c = special_none (first_specialised c.args.axioms.now c.args.axioms.now) c.args.axioms.now c.loop-axiom.axiom-index c.loop-axiom.invariant c.loop-axiom-test.false
