-- What is left decides.
use Rattle.std.proofs.Common.{◌≡◌, map, drop}
use Rattle.std.specs.List.{list_any}
use Rattle.annotation_language.specs.Lines.{has_bad_template}
use Rattle.annotation_language.specs.Resolved.{shown_placed}
use Rattle.annotation_language.proofs.rules.some_bad_template.Given as goal

abbrev pub invariant-loop-placed : goal.invariant-loop-placed
invariant-loop-placed l = list_any (λ placed. has_bad_template placed.argument) (map shown_placed (drop l.placed-index l.places)) ≡ list_any (λ placed. has_bad_template placed.argument) (map shown_placed l.places)
