-- The holes so far.
use Rattle.std.proofs.Common.{◌≡◌, ◌++◌, map, take}
use Rattle.std.specs.List.{flat_map}
use Rattle.iri_templates.specs.Templates.{holes_in}
use Rattle.iri_templates.proofs.template.holes_of.Given as goal

abbrev pub invariant-loop-part : goal.invariant-loop-part
invariant-loop-part l = map (λ hole. hole.now) l.holes.items ≡ holes_in l.fn.first ++ flat_map (λ p. holes_in p.segment) (take l.part-index l.fn.rest)
