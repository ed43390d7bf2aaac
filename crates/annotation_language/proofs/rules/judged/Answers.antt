use Rattle.std.proofs.Common.{◌++◌}
use Rattle.annotation_language.proofs.Judged.{rule_first}
use Rattle.annotation_language.proofs.rules.judged.Goals as goal

pub returns-in-Some : goal.returns-in-Some
returns-in-Some c = rule_first c.args.rules.now (c.args.counts.now ++ c.args.others.now) c.in-Some.fault c.in-Some.ensures
