use Rattle.owl_functional.specs.Rules.{makes_functional}
use Rattle.owl_functional.proofs.Tables.{none_told, next_told, all_told}
use Rattle.owl_functional.proofs.lookup.all_functional.Goals as goal

pub loop-axiom-init : goal.loop-axiom-init
loop-axiom-init c = none_told makes_functional c.new-functional.result c.new-functional.ensures

pub loop-axiom-preserved : goal.loop-axiom-preserved
loop-axiom-preserved c = next_told makes_functional c.args.axioms.now c.loop-axiom.axiom-index c.axiom-item.result c.loop-axiom.functional c.note_functional.new.functional c.loop-axiom-test.true c.axiom-item.is c.loop-axiom.invariant c.in_ok-note_functional.ensures.noted

pub returns-clause-told : goal.returns-clause-told
returns-clause-told c = all_told makes_functional c.args.axioms.now c.loop-axiom.axiom-index c.loop-axiom.functional c.loop-axiom-test.false c.loop-axiom.invariant
