use Rattle.std.proofs.Common.{codes, decimal}
use Rattle.std.proofs.lemmas.Result.{on_ok_weaker}
use Rattle.answer_text.proofs.Lining.{three_written}
use Rattle.answer_text.proofs.containment.push_cover.Goals as goal

pub returns : goal.returns
returns c =
    on_ok_weaker c.push-2.result
    (λ last. three_written c.args.out.now.items (codes "contained by ") (decimal c.args.number) (codes "\n") c.push.new.out.items c.push_number.new.out.items c.push-2.new.out.items
    c.in_ok-push.ensures c.in_ok-push_number.ensures last)
    c.push-2.ensures
