use Rattle.std.proofs.Common.{subst}
use Rattle.uml_model.specs.Sorts.{IsModel}
use Rattle.uml_model.proofs.Models.{invariant_model}
use Rattle.uml_model.proofs.class_model.Model.lines.Goals as goal

pub returns-clause-sound : goal.returns-clause-sound
returns-clause-sound c = subst IsModel c.self.view_is (invariant_model _ _ _ _ _ _ c.self.invariant)
