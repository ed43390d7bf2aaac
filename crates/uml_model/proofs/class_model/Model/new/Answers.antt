use Rattle.std.proofs.Common.{rules}
use Rattle.uml_model.proofs.Models.{no_model}
use Rattle.uml_model.proofs.class_model.Model.new.Goals as goal

pub returns-clause-sound : goal.returns-clause-sound
returns-clause-sound c = no_model (record { classes = c.new.result; links = c.new-2.result; sides = c.new-3.result.items; lines = c.new-4.result }) (search rules)
