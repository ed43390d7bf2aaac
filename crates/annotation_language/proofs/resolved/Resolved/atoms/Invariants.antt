-- The atoms so far.
use Rattle.std.proofs.Common.{◌≡◌, map, take}
use Rattle.std.specs.List.{flat_map}
use Rattle.uml_model.specs.Rules.{class_named, link_named}
use Rattle.annotation_language.specs.Lines.{atom_of}
use Rattle.annotation_language.specs.Shown.{shown_atom, shown_query}
use Rattle.annotation_language.proofs.resolved.Resolved.atoms.Given as goal

abbrev pub invariant-loop-atom : goal.invariant-loop-atom
invariant-loop-atom l = l.atoms.items ≡ flat_map (atom_of (class_named l.model) (link_named l.model) (shown_query l.self.query.now)) (map shown_atom (take l.atom-index l.self.query.now.atoms.items))
