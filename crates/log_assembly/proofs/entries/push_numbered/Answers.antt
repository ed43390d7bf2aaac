use Rattle.std.proofs.Common.{arith}
use Rattle.std.proofs.lemmas.Grind.{common_steps}
use Rattle.log_assembly.proofs.Numbering.{numbered_more}
use Rattle.log_assembly.proofs.entries.push_numbered.Goals as goal

pub loop-at-preserved : goal.loop-at-preserved
loop-at-preserved c = grind (arith, common_steps, numbered_more)
