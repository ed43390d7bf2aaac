-- The atoms of a query are over the classes and links of the model.
use Rattle.std.proofs.Common.{subst, ◌≡◌, refl, List, [], ◌∷◌, Option, Some, None, inl, inr, length}
use Rattle.std.specs.List.{flat_map}
use Rattle.vocabulary.specs.declared.ids.ClassId.{ClassId}
use Rattle.vocabulary.specs.declared.ids.LinkId.{LinkId}
use Rattle.vocabulary.specs.declared.ids.Side.{Side}
use Rattle.vocabulary.specs.Lists.{In, here, there}
use Rattle.vocabulary.proofs.Lists.{In-append_cases}
use Rattle.queries.specs.declared.query.Atom.{Atom}
use Rattle.uml_model.specs.Rules.{Known, class_named, link_named}
use Rattle.uml_model.proofs.Below.{class_below, link_below}
use Rattle.annotation_language.specs.Written as written
use Rattle.annotation_language.specs.Lines.{class_atom, link_atom, atom_of, query_of}
use Rattle.queries.specs.Within.{IsAtomWithin, IsQueryWithin}

module _ (model : Known) (q : written.Asked) where
  -- an atom over so many
  abbrev Within : Atom → Type 0
  Within x = IsAtomWithin (length model.classes) (length model.links) x

  atom_within : (a : written.Atom) (x : Atom) → In x (atom_of (class_named model) (link_named model) q a) → Within x
  atom_within (written.One p a) x m = by (class_named model p) refl m
    where
      by : (o : Option ClassId) → class_named model p ≡ o → In x (class_atom q o a) → Within x
      by None e m = elim m [ ]
      by (Some c) e (here is) = subst Within is (class_below model p c e)
      by (Some c) e (there m) = elim m [ ]
  atom_within (written.Two p a b) x m = by (link_named model p) refl m
    where
      by : (o : Option (LinkId × Side)) → link_named model p ≡ o → In x (link_atom q o a b) → Within x
      by None e m = elim m [ ]
      by (Some (r, side)) e (here is) = subst Within is (link_below model p r side e)
      by (Some (r, side)) e (there m) = elim m [ ]

  atoms_within : (atoms : List written.Atom) (x : Atom) → In x (flat_map (atom_of (class_named model) (link_named model) q) atoms) → Within x
  atoms_within [] x m = elim m [ ]
  atoms_within (a ∷ atoms) x m =
      elim (In-append_cases (atom_of (class_named model) (link_named model) q a) (flat_map (atom_of (class_named model) (link_named model) q) atoms) m) [ inl h ↦ atom_within a x h | inr h ↦ atoms_within atoms x h ]

pub query_within : (model : Known) (q : written.Asked) → IsQueryWithin (length model.classes) (length model.links) (query_of (class_named model) (link_named model) q)
query_within model q = atoms_within model q q.atoms
