use Rattle.uml_model.proofs.Places.{next_place}
use Rattle.uml_model.proofs.class_model.in_order.Goals as goal

pub loop-name-preserved : goal.loop-name-preserved
loop-name-preserved c = next_place c.args.names.now c.loop-name.name-index c.in_ok-add.field-0 c.name-item.result c.text.result.now c.loop-name.numbered c.add.new.self c.requires.differ c.loop-name-test.true c.name-item.is c.text.ensures c.loop-name.invariant c.in_ok-add.ensures.ok
