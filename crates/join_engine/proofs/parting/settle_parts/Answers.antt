use Rattle.std.proofs.Common.{arith}
use Rattle.join_engine.proofs.Parts.{free_start}
use Rattle.join_engine.proofs.parting.settle_parts.Goals as goal

pub loop-before-init : goal.loop-before-init
loop-before-init c = record {
  free = free_start c.args.tables.now c.args.query.now c.args.front.now.items c.requires.none;
  within = omega (arith, c.requires.none);
}
