use Rattle.std.proofs.Common.{◌∙◌}
use Rattle.civil_values.proofs.Numerals.{parsed}
use Rattle.civil_values.proofs.number.read_int.Goals as goal

pub returns : goal.returns
returns c = c.ok.ensures.value ∙ parsed c.args.text.now c.parse.result c.parse.ensures.value.0
