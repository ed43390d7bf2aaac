use Rattle.owl_functional.specs.Rules.{declares}
use Rattle.owl_functional.proofs.Tables.{none_told, next_told, all_told}
use Rattle.owl_functional.proofs.lookup.all_declared.Goals as goal

pub loop-axiom-init : goal.loop-axiom-init
loop-axiom-init c = none_told declares c.new-declared.result c.new-declared.ensures

pub loop-axiom-preserved : goal.loop-axiom-preserved
loop-axiom-preserved c = next_told declares c.args.axioms.now c.loop-axiom.axiom-index c.axiom-item.result c.loop-axiom.declared c.note_declared.new.declared c.loop-axiom-test.true c.axiom-item.is c.loop-axiom.invariant c.in_ok-note_declared.ensures.noted

pub returns-clause-told : goal.returns-clause-told
returns-clause-told c = all_told declares c.args.axioms.now c.loop-axiom.axiom-index c.loop-axiom.declared c.loop-axiom-test.false c.loop-axiom.invariant
