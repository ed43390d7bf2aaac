use Rattle.uml_model.specs.Rules.{link_of}
use Rattle.uml_model.proofs.Lists.{pushed_map}
use Rattle.uml_model.proofs.class_model.Model.links_of.Goals as goal

pub loop-name-preserved : goal.loop-name-preserved
loop-name-preserved c = pushed_map (link_of c.args.self.now) (λ name. name.now) c.args.names.now c.loop-name.name-index _ c.loop-name.links c.push.new.self _ c.loop-name-test.true c.loop-name.invariant c.link_of.ensures c.in_ok-push.ensures.ok
