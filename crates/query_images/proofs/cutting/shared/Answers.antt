-- By `Noting`.
use Rattle.std.proofs.Common.{sym, subst, take}
use Rattle.query_images.specs.Cuts.{AreShared}
use Rattle.query_images.proofs.Noting.{shared_all, shared_more, shared_none}
use Rattle.query_images.proofs.cutting.shared.Goals as goal

pub loop-atom-init : goal.loop-atom-init
loop-atom-init c = subst (AreShared (take 0 c.args.own.now) c.args.others.now c.args.head.now) (sym c.new-vars.ensures) (shared_none c.args.others.now c.args.head.now c.args.own.now)

pub loop-atom-preserved : goal.loop-atom-preserved
loop-atom-preserved c =
    shared_more c.args.own.now c.args.others.now c.args.head.now c.loop-atom.atom-index c.atom-item.result c.loop-atom-test.true c.atom-item.is c.loop-atom.vars c.note_atom.new.vars
    c.loop-atom.invariant c.in_ok-note_atom.ensures

pub returns : goal.returns
returns c = shared_all c.args.own.now c.args.others.now c.args.head.now c.loop-atom.atom-index c.loop-atom.vars c.loop-atom-test.false c.loop-atom.invariant
