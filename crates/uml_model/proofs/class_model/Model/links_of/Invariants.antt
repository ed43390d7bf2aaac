use Rattle.std.proofs.Common.{◌≡◌, map, take}
use Rattle.uml_model.specs.Rules.{link_of}
use Rattle.uml_model.proofs.class_model.Model.links_of.Given as goal

abbrev pub invariant-loop-name : goal.invariant-loop-name
invariant-loop-name l = l.links ≡ map (link_of l.self) (map (λ name. name.now) (take l.name-index l.names))
