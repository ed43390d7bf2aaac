use Rattle.mapping_unfolding.specs.Drafts.{head_term}
use Rattle.mapping_unfolding.proofs.Finishing.{made_more}
use Rattle.mapping_unfolding.proofs.unfolding.head_terms.Goals as goal

pub loop-arg-preserved : goal.loop-arg-preserved
loop-arg-preserved c =
    made_more (head_term c.args.bound.now) c.args.head.now c.loop-arg.arg-index c.arg-item.result c.loop-arg.terms c.push_head_term.new.terms c.loop-arg-test.true c.arg-item.is c.loop-arg.invariant c.in_ok-push_head_term.ensures
