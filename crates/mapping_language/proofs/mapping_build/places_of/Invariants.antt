use Rattle.std.proofs.Common.{◌≡◌, map, take}
use Rattle.iri_templates.specs.Templates.{hole_texts}
use Rattle.mapping_language.specs.Mappings.{place_at, cell_of_hole}
use Rattle.mapping_language.specs.Shown.{map_shown}
use Rattle.mapping_language.proofs.mapping_build.places_of.Given as goal

abbrev pub invariant-loop-hole : goal.invariant-loop-hole
invariant-loop-hole l = l.list ≡ map (λ hole. place_at l.sources (map_shown l.line) (cell_of_hole hole)) (take l.hole-index (hole_texts l.template))
