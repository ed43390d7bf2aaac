-- What is left decides.
use Rattle.std.proofs.Common.{◌≡◌, ◌==◌, map, drop, length}
use Rattle.std.specs.List.{list_any}
use Rattle.annotation_language.specs.Shown.{shown_atom}
use Rattle.annotation_language.specs.Resolved.{places_of}
use Rattle.annotation_language.proofs.rules.some_misapplied.Given as goal

abbrev pub invariant-loop-atom : goal.invariant-loop-atom
invariant-loop-atom l = list_any (λ a. length (places_of l.model a) == 0) (map shown_atom (drop l.atom-index l.atoms)) ≡ list_any (λ a. length (places_of l.model a) == 0) (map shown_atom l.atoms)
