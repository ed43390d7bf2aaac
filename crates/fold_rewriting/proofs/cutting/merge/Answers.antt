-- By `Merging`.
use Rattle.std.proofs.Common.{arith}
use Rattle.fold_rewriting.proofs.Merging.{merge_on, merge_stops}
use Rattle.fold_rewriting.proofs.cutting.merge.Goals as goal

pub loop-at-preserved : goal.loop-at-preserved
loop-at-preserved c =
    let r = merge_on c.args.v c.args.query.now c.loop-at.at c.loop-at.cut c.in-Some.next c.in_ok-next.field-0 (omega (arith, c.loop-at-test.true, c.len-at-end.ensures)) c.loop-at.invariant.merged c.loop-at.invariant.long c.in_ok-next.ensures c.in-Some.is in
    record { merged = r.0; long = r.1 }

pub returns-in-None : goal.returns-in-None
returns-in-None c = merge_stops c.args.v c.args.query.now c.loop-at.at c.loop-at.cut c.in_ok-next.field-0 (omega (arith, c.loop-at-test.true, c.len-at-end.ensures)) c.loop-at.invariant.merged c.in_ok-next.ensures c.in-None.is
