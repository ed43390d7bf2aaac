-- The places of the atoms so far.
use Rattle.std.proofs.Common.{◌≡◌, map, take}
use Rattle.std.specs.List.{flat_map}
use Rattle.annotation_language.specs.Shown.{shown_atom}
use Rattle.annotation_language.specs.Resolved.{shown_placed, places_of}
use Rattle.annotation_language.proofs.places.all_places.Given as goal

abbrev pub invariant-loop-atom : goal.invariant-loop-atom
invariant-loop-atom l = map shown_placed l.found.items ≡ flat_map (places_of l.model) (map shown_atom (take l.atom-index l.atoms))
