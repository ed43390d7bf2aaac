-- What is left decides as all of it does.
use Rattle.std.proofs.Common.{◌≡◌, map, drop}
use Rattle.annotation_language.specs.Resolved.{shown_placed, sides_at, first_of}
use Rattle.annotation_language.proofs.places.side_of.Given as goal

abbrev pub invariant-loop-placed : goal.invariant-loop-placed
invariant-loop-placed l = first_of (sides_at l.v (map shown_placed (drop l.placed-index l.places))) ≡ first_of (sides_at l.v (map shown_placed l.places))
