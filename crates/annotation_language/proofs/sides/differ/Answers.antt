use Rattle.std.proofs.Common.{◌∙◌}
use Rattle.annotation_language.proofs.Sorts.{differs_from_first}
use Rattle.annotation_language.proofs.sides.differ.Goals as goal

pub returns-in-len1-up : goal.returns-in-len1-up
returns-in-len1-up c = c.some_other.ensures ∙ differs_from_first c.args.sides.now _ c.in-len1-up.len_at_least
