-- By `Imaged`.
use Rattle.std.proofs.Common.{rules, ◌≡◌, ◌++◌, ◌∷◌, []}
use Rattle.query_images.proofs.Imaged.{shares_more}
use Rattle.query_images.proofs.collecting.add_all.Goals as goal

pub loop-tuple-preserved : goal.loop-tuple-preserved
loop-tuple-preserved c =
    let old : c.loop-tuple.found.items ≡ c.pop.new.self.items ++ c.in-Some.tuple ∷ [] = search rules in
    shares_more c.loop-tuple.out.items c.loop-tuple.found.items c.args.out.now.items c.args.found.items c.push.new.self.items c.pop.new.self.items c.in-Some.tuple c.loop-tuple.invariant old c.in_ok-push.ensures.items
