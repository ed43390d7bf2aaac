-- The sorts of the places so far.
use Rattle.std.proofs.Common.{◌≡◌, ℕ, List, map, take}
use Rattle.annotation_language.specs.Resolved.{shown_placed, sides_at}
use Rattle.annotation_language.specs.Sides.{noted_for}
use Rattle.annotation_language.proofs.sides.Sides.of.Given as goal

abbrev pub invariant-loop-placed : goal.invariant-loop-placed
invariant-loop-placed l = (v : List ℕ) → noted_for l.by_variable v ≡ sides_at v (map shown_placed (take l.placed-index l.places))
