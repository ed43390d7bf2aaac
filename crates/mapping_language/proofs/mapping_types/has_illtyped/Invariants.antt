use Rattle.std.proofs.Common.{◌≡◌, drop}
use Rattle.std.specs.List.{list_any}
use Rattle.mapping_language.specs.Mappings.{is_illtyped}
use Rattle.mapping_language.specs.Shown.{condition_shown, map_shown}
use Rattle.mapping_language.proofs.mapping_types.has_illtyped.Given as goal

abbrev pub invariant-loop-condition : goal.invariant-loop-condition
invariant-loop-condition l = list_any (λ c. is_illtyped l.sources (map_shown l.line) (condition_shown c)) l.conditions ≡ list_any (λ c. is_illtyped l.sources (map_shown l.line) (condition_shown c)) (drop l.condition-index l.conditions)
