use Rattle.std.proofs.Common.{◌∙◌, ap}
use Rattle.civil_values.specs.TimeReader.{offset_of}
use Rattle.civil_values.proofs.Offsets.{some_sound}
use Rattle.civil_values.proofs.offset.read_offset.Goals as goal

pub returns-clause-found : goal.returns-clause-found
returns-clause-found c = some_sound _ _ (c.read_minutes.ensures.value ∙ ap offset_of c.as_bytes.ensures.value)
