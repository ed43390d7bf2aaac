use Rattle.big_project.proofs.Lines.{line_more}
use Rattle.big_project.proofs.summary.first_line.Goals as goal

pub loop-byte-preserved : goal.loop-byte-preserved
loop-byte-preserved c = line_more c.args.text.now c.loop-byte.out.items c.push.new.self.items c.loop-byte.byte-index _ c.loop-byte-test.true c.if-byte-eq10.false c.loop-byte.invariant c.in_ok-push.ensures.items
