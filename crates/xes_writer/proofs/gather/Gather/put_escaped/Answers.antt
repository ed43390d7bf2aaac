use Rattle.std.proofs.Common.{◌≤◌, ◌+◌, ◌-◌, drop, length, length-drop, length-take, arith}
use Rattle.xes_writer.specs.Xes.{escaped}
use Rattle.xes_writer.proofs.Putting.{puts_escaped, puts_none}
use Rattle.xes_writer.proofs.gather.Gather.put_escaped.Goals as goal

pub loop-at-init : goal.loop-at-init
unfolding escaped
loop-at-init g c = record { within = omega arith; put = puts_none c.args.out.now c.args.self.now }

pub loop-at-preserved : goal.loop-at-preserved
loop-at-preserved g c =
    let text = c.args.text.now in
    let at = c.loop-at.at in
    let n = c.put_front-at.result in
    let within : at + n ≤ length text = omega (arith, c.put_front-at.ensures.within, c.loop-at.invariant.within, length-take (length text - at) (drop at text), length-drop at text) in
    record { within = within; put = puts_escaped text at n c.loop-at.invariant.put c.put_front-at.ensures.put within }
