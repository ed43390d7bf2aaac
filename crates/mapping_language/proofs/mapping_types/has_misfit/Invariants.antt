use Rattle.std.proofs.Common.{◌≡◌, not, drop}
use Rattle.std.specs.List.{list_any}
use Rattle.uml_model.specs.Rules.{class_named, link_named}
use Rattle.mapping_language.specs.Mappings.{fits, places}
use Rattle.mapping_language.specs.Shown.{target_shown, map_shown}
use Rattle.mapping_language.proofs.mapping_types.has_misfit.Given as goal

abbrev pub invariant-loop-target : goal.invariant-loop-target
invariant-loop-target l = list_any (λ t. list_any (λ placed. not (fits l.sources (map_shown l.line) placed.term placed.side)) (places (class_named l.model) (link_named l.model) (target_shown t))) l.targets ≡ list_any (λ t. list_any (λ placed. not (fits l.sources (map_shown l.line) placed.term placed.side)) (places (class_named l.model) (link_named l.model) (target_shown t))) (drop l.target-index l.targets)
