-- What is found so far, and what is left.
use Rattle.std.proofs.Common.{◌≡◌, drop, map}
use Rattle.std.specs.List.{flat_map}
use Rattle.annotation_language.specs.Lines.{each_once, variables_of_atom}
use Rattle.annotation_language.specs.Shown.{shown_atom}
use Rattle.annotation_language.specs.Resolved.{texts}
use Rattle.annotation_language.proofs.variables.add_atoms.Given as goal

abbrev pub invariant-loop-atom : goal.invariant-loop-atom
invariant-loop-atom l = each_once (texts l.found.keys) (flat_map variables_of_atom (map shown_atom (drop l.atom-index l.atoms))) ≡ each_once (texts l.fn.found.keys) (flat_map variables_of_atom (map shown_atom l.atoms))
