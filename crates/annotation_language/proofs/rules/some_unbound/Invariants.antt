-- What is left decides.
use Rattle.std.proofs.Common.{◌≡◌, ◌==◌, drop, length}
use Rattle.std.specs.List.{list_any}
use Rattle.annotation_language.specs.Resolved.{texts}
use Rattle.annotation_language.specs.Sides.{sides_in}
use Rattle.annotation_language.proofs.rules.some_unbound.Given as goal

abbrev pub invariant-loop-v : goal.invariant-loop-v
invariant-loop-v l = list_any (λ v. length (sides_in l.sides v) == 0) (texts (drop l.v-index l.variables)) ≡ list_any (λ v. length (sides_in l.sides v) == 0) (texts l.variables)
