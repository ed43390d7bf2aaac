-- A step at a time.
use Rattle.std.proofs.Common.{refl}
use Rattle.answer_text.proofs.Lining.{rule_written}
use Rattle.answer_text.proofs.void_lines.push_rules.Goals as goal

pub loop-at-preserved : goal.loop-at-preserved
loop-at-preserved c =
    rule_written c.args.rules.now c.loop-at.at _ _ c.args.out.now.items c.loop-at.out.items c.push_rule.new.out.items
    c.loop-at-test.true refl c.loop-at.invariant c.in_ok-push_rule.ensures
