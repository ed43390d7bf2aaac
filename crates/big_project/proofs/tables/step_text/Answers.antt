use Rattle.std.proofs.Common.{codes}
use Rattle.big_project.specs.Files.{step_line}
use Rattle.big_project.proofs.Counting.{one_more}
use Rattle.big_project.proofs.tables.step_text.Goals as goal

pub loop-before-preserved : goal.loop-before-preserved
loop-before-preserved c = one_more (step_line c.args.docs) (codes "id,doc,done\n") c.loop-before.out.items c.push_step.new.out.items c.loop-before.before c.loop-before.invariant c.in_ok-push_step.ensures
