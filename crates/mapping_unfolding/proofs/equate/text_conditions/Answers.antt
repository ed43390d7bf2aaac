use Rattle.mapping_unfolding.proofs.Equating.{texts_more}
use Rattle.mapping_unfolding.proofs.equate.text_conditions.Goals as goal

pub loop-i-preserved : goal.loop-i-preserved
loop-i-preserved c =
    texts_more c.args.places.now c.args.texts.now c.loop-i.i c.index-texts-i.result c.in_ok-copy.field-0 c.loop-i.conditions c.push.new.self c.requires c.loop-i-test.true c.loop-i.invariant
    c.in_ok-push.ensures.ok c.in_ok-copy.ensures c.index-texts-i.is
