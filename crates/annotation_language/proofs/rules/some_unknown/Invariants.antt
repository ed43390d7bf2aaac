-- What is left decides.
use Rattle.std.proofs.Common.{◌≡◌, map, drop}
use Rattle.std.specs.List.{list_any}
use Rattle.annotation_language.specs.Shown.{shown_atom}
use Rattle.annotation_language.specs.Resolved.{is_unknown}
use Rattle.annotation_language.proofs.rules.some_unknown.Given as goal

abbrev pub invariant-loop-atom : goal.invariant-loop-atom
invariant-loop-atom l = list_any (is_unknown l.model) (map shown_atom (drop l.atom-index l.atoms)) ≡ list_any (is_unknown l.model) (map shown_atom l.atoms)
