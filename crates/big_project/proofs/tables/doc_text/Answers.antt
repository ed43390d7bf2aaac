use Rattle.std.proofs.Common.{codes}
use Rattle.big_project.specs.Files.{doc_line}
use Rattle.big_project.proofs.Counting.{one_more}
use Rattle.big_project.proofs.tables.doc_text.Goals as goal

pub loop-before-preserved : goal.loop-before-preserved
loop-before-preserved c = one_more doc_line (codes "id,made\n") c.loop-before.out.items c.push_doc.new.out.items c.loop-before.before c.loop-before.invariant c.in_ok-push_doc.ensures
