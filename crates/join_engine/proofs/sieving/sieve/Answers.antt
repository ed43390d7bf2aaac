use Rattle.std.proofs.Common.{◌∙◌, ap, length}
use Rattle.join_engine.proofs.Ties.{sieved_step}
use Rattle.join_engine.proofs.sieving.sieve.Goals as goal

pub loop-row-preserved : goal.loop-row-preserved
loop-row-preserved c = record {
  long = ap length c.in_ok-add_sieved.ensures.probe ∙ c.loop-row.invariant.long;
  kept = sieved_step c.args.tables.now c.args.query.now c.args.depth c.loop-row.probe.items c.add_sieved.new.probe.items c.loop-row.row c.loop-row.kept c.add_sieved.new.kept c.in_ok-add_sieved.ensures.probe c.loop-row.invariant.kept c.in_ok-add_sieved.ensures.kept;
}
