use Rattle.std.proofs.Common.{◌≡◌, take}
use Rattle.uml_model.proofs.class_model.in_order.Given as goal

abbrev pub invariant-loop-name : goal.invariant-loop-name
invariant-loop-name l = l.numbered ≡ take l.name-index l.names
