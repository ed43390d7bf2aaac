use Rattle.std.proofs.Common.{◌≡◌, take}
use Rattle.std.specs.List.{flat_map}
use Rattle.uml_model.specs.Rules.{class_named, link_named}
use Rattle.mapping_language.specs.Mappings.{targets_of}
use Rattle.mapping_language.specs.Shown.{target_shown, map_shown}
use Rattle.mapping_language.proofs.mapping_build.targets_of.Given as goal

abbrev pub invariant-loop-target : goal.invariant-loop-target
invariant-loop-target l = l.list ≡ flat_map (λ t. targets_of (class_named l.model) (link_named l.model) l.sources (map_shown l.line) (target_shown t)) (take l.target-index l.targets)
