use Rattle.std.proofs.Common.{◌∙◌, ap}
use Rattle.annotation_language.specs.Resolved.{texts}
use Rattle.annotation_language.proofs.Numbers.{inserted}
use Rattle.annotation_language.proofs.variables.add.Goals as goal

pub returns : goal.returns
returns c = ap texts c.in_ok-insert.ensures.keys ∙ inserted c.args.found.now.keys c.args.v
