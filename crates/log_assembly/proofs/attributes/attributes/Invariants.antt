use Rattle.std.proofs.Common.{◌≡◌, ◌-◌, length, map, take}
use Rattle.std.specs.List.{zip}
use Rattle.log_assembly.specs.Found.{attribute_of}
use Rattle.log_assembly.proofs.attributes.attributes.Given as goal

abbrev pub invariant-loop-at : goal.invariant-loop-at
invariant-loop-at l = l.found.items ≡ map (λ p. attribute_of l.object p.0 p.1) (take l.at (zip l.keys l.answers))

abbrev pub decreases-loop-at : goal.decreases-loop-at
decreases-loop-at l = length l.keys - l.at
