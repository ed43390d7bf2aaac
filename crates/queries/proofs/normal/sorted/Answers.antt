-- By `Placing`.
use Rattle.std.proofs.Common.{◌≡◌, ◌∙◌, ap, length, arith}
use Rattle.queries.proofs.Placing.{put_all, put_all-in_order, popped_fewer, placed, all_placed}
use Rattle.queries.proofs.normal.sorted.Goals as goal

pub loop-atom-init : goal.loop-atom-init
loop-atom-init c = ap (put_all c.args.atoms.items) c.new-out.ensures.items ∙ put_all-in_order c.args.atoms.items

pub loop-atom-smaller : goal.loop-atom-smaller
loop-atom-smaller c = popped_fewer c.pop.new.self.items c.loop-atom.atoms.items c.in-Some.atom c.in-Some.ensures.items

pub loop-atom-preserved : goal.loop-atom-preserved
loop-atom-preserved c =
    placed c.pop.new.self.items c.loop-atom.atoms.items c.args.atoms.items c.loop-atom.out.items c.place.new.atoms.items c.in-Some.atom c.in-Some.ensures.items c.in_ok-place.ensures c.loop-atom.invariant

pub returns : goal.returns
returns c =
    let none : length c.loop-atom.atoms.items ≡ 0 = omega (arith, c.in_default.ensures.cases.0, c.loop-atom.atoms.ok.0) in
    all_placed c.loop-atom.atoms.items c.args.atoms.items c.loop-atom.out.items none c.loop-atom.invariant
