-- By `Querying`.
use Rattle.std.proofs.Common.{◌∙◌, ◌++◌, ◌∷◌, [], get_or}
use Rattle.queries.specs.declared.query.Atom.TheVariants.{Linked}
use Rattle.identification_check.proofs.Querying.{atom_pushed}
use Rattle.identification_check.proofs.asking.atoms.Goals as goal

pub loop-at-preserved : goal.loop-at-preserved
loop-at-preserved c =
    atom_pushed c.args.links.now c.args.class c.loop-at.at (record { 0 = 0 }) c.loop-at.atoms c.push-in-loop-at.new.self c.loop-at-test.true c.loop-at.invariant
    (c.in_ok-push-2.ensures.ok ∙ (λ i. c.loop-at.atoms ++ Linked (get_or c.args.links.now c.loop-at.at (record { 0 = 0 })) (c.var-in-loop-at.ensures i) (c.var-in-loop-at-2.ensures i) ∷ []))
