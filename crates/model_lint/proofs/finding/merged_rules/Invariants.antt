-- The rules so far.
use Rattle.std.proofs.Common.{◌≡◌, map, take}
use Rattle.model_lint.specs.Marks.{merged_rule}
use Rattle.model_lint.proofs.finding.merged_rules.Given as goal

abbrev pub invariant-loop-rule : goal.invariant-loop-rule
invariant-loop-rule l = l.all ≡ map merged_rule (take l.rule-index l.rules)
