use Rattle.std.proofs.Common.{◌≡◌, ◌++◌, take}
use Rattle.answer_text.specs.Voids.{rule_lines}
use Rattle.answer_text.proofs.void_lines.push_rules.Given as goal

abbrev pub invariant-loop-at : goal.invariant-loop-at
invariant-loop-at l = l.out.items ≡ l.fn.out.items ++ rule_lines 2 (take l.at l.fn.rules)
