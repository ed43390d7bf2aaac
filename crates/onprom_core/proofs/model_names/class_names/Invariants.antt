use Rattle.std.proofs.Common.{◌≡◌, take}
use Rattle.onprom_core.proofs.model_names.class_names.Given as goal

abbrev pub invariant-loop-class : goal.invariant-loop-class
invariant-loop-class l = l.names ≡ take l.class l.model.classes
