use Rattle.std.proofs.Common.{◌≤◌, ◌+◌, ◌-◌, drop, take, length, length-drop, length-take, arith}
use Rattle.xes_writer.proofs.Putting.{puts_held, puts_piece}
use Rattle.xes_writer.proofs.gather.Gather.put.Goals as goal

pub loop-at-preserved : goal.loop-at-preserved
loop-at-preserved g c =
    let text = c.args.text.now in
    let at = c.loop-at.at in
    let n = c.hold-at.result in
    let within : at + n ≤ length text = omega (arith, c.hold-at.ensures.count, c.loop-at.invariant.within, length-take (length text - at) (drop at text), length-drop at text) in
    record {
      within = within;
      put = puts_piece text at n c.loop-at.invariant.put c.make_room.ensures.put
          (puts_held c.make_room.new.out c.make_room.new.self c.hold-at.new.self (take n (take (length text - at) (drop at text))) c.hold-at.ensures.done c.hold-at.ensures.bytes) within;
    }
