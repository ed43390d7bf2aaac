-- What is left decides.
use Rattle.std.proofs.Common.{◌≡◌, drop}
use Rattle.std.specs.List.{list_any}
use Rattle.annotation_language.specs.Lines.{is_value_side}
use Rattle.annotation_language.specs.Resolved.{texts}
use Rattle.annotation_language.specs.Sides.{sides_in}
use Rattle.annotation_language.proofs.rules.some_valued.Given as goal

abbrev pub invariant-loop-v : goal.invariant-loop-v
invariant-loop-v l = list_any (λ v. list_any is_value_side (sides_in l.sides v)) (texts (drop l.v-index l.variables)) ≡ list_any (λ v. list_any is_value_side (sides_in l.sides v)) (texts l.variables)
