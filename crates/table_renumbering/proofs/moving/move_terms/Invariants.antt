use Rattle.std.proofs.Common.{◌≡◌, map, take}
use Rattle.table_renumbering.specs.Renumbering.{moved_term}
use Rattle.table_renumbering.proofs.moving.move_terms.Given as goal

abbrev pub invariant-loop-term : goal.invariant-loop-term
invariant-loop-term l = l.moved ≡ map (moved_term l.places) (take l.term-index l.terms)
