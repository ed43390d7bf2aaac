-- By `Querying`.
use Rattle.std.proofs.Common.{◌∙◌, ap, ◌++◌, ◌∷◌, []}
use Rattle.identification_check.proofs.Querying.{var_pushed}
use Rattle.identification_check.proofs.asking.head.Goals as goal

pub loop-at-preserved : goal.loop-at-preserved
loop-at-preserved c =
    var_pushed c.args.links.now c.loop-at.at (record { 0 = 0 }) c.loop-at.head c.push.new.self c.loop-at-test.true c.loop-at.invariant (c.in_ok-push.ensures.ok ∙ ap (λ x. c.loop-at.head ++ x ∷ []) c.var.ensures)
