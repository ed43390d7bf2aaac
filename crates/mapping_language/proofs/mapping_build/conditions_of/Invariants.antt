use Rattle.std.proofs.Common.{◌≡◌, map, take}
use Rattle.mapping_language.specs.Mappings.{condition_of}
use Rattle.mapping_language.specs.Shown.{condition_shown, map_shown}
use Rattle.mapping_language.proofs.mapping_build.conditions_of.Given as goal

abbrev pub invariant-loop-condition : goal.invariant-loop-condition
invariant-loop-condition l = l.list ≡ map (λ c. condition_of l.sources (map_shown l.line) (condition_shown c)) (take l.condition-index l.conditions)
