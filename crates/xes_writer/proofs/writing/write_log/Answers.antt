use Rattle.std.proofs.Common.{[], ap}
use Rattle.xes_writer.specs.Xes.{xes_text}
use Rattle.xes_writer.proofs.Putting.{at_end, at_start}
use Rattle.xes_writer.proofs.writing.write_log.Goals as goal

pub returns : goal.returns
returns g c =
    let start = c.args.out.now in
    let text = xes_text c.args.log.now in
    let first = at_start start c.new-gather.result (ap (λ w. w.done) c.new-gather.ensures) (ap (λ w. w.bytes) c.new-gather.ensures) in
    let last = c.flush.ensures.put.behind start text (c.put_log.ensures.behind start [] first) in
    let end = at_end start c.flush.new.out c.flush.new.self c.done.result text c.done.ensures c.flush.ensures.empty last in
    record { ok = end.ok; err = end.err; memory = end.memory; last = end.last; wants = end.wants_same; counts = end.counts }
