-- The queries for mapped facts.
use Rattle.std.specs.Prelude.{[], ◌∷◌}
use Rattle.vocabulary.specs.declared.ids.LinkId.{LinkId}
use Rattle.vocabulary.specs.declared.ids.Dir.{Dir}
use Rattle.vocabulary.specs.declared.ids.Dir.TheVariants.{Fwd, Back}
use Rattle.vocabulary.specs.declared.term.Term.{Term}
use Rattle.dllite_axioms.specs.declared.axioms.Basic.{Basic}
use Rattle.dllite_axioms.specs.declared.axioms.Basic.TheVariants.{Class, Has}
use Rattle.queries.specs.declared.query.Arg.TheVariants.{Blank, Fixed}
use Rattle.queries.specs.declared.query.Atom.{Atom}
use Rattle.queries.specs.declared.query.Atom.TheVariants.{InClass, Linked}
use Rattle.queries.specs.declared.query.Query.{Query}

-- the basic at the term
abbrev pub basic_atom : Basic → Term → Atom
basic_atom (Class a) t = InClass a (Fixed t)
basic_atom (Has p Fwd) t = Linked p (Fixed t) Blank
basic_atom (Has p Back) t = Linked p Blank (Fixed t)

-- the link between the terms, from the end at which the direction starts
abbrev pub link_atom : LinkId → Dir → Term → Term → Atom
link_atom p Fwd s t = Linked p (Fixed s) (Fixed t)
link_atom p Back s t = Linked p (Fixed t) (Fixed s)

-- whether there is a fact for the atom
abbrev pub atom_query : Atom → Query
atom_query a = record { head = []; atoms = a ∷ [] }
