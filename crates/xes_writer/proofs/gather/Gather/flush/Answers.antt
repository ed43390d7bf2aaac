use Rattle.std.proofs.Common.{◌∙◌, sym, ap, refl}
use Rattle.xes_writer.proofs.Putting.{puts_flushed}
use Rattle.xes_writer.proofs.gather.Gather.flush.Goals as goal

pub returns-in-Ok-clause-put : goal.returns-in-Ok-clause-put
returns-in-Ok-clause-put g c =
    let sent = c.write_all-self-inside.ensures in
    puts_flushed c.args.out.now c.write_all-self-inside.new.sink c.args.self.now _ c.write_all-self-inside.result (ap (λ w. w.done) (sym c.self.view_is) ∙ c.in-Ok.is) refl refl
    (rw c.held.ensures at sent.ok) (rw c.held.ensures at sent.err) sent.memory sent.last sent.wants sent.counts
