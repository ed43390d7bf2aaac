-- A query with a tuple in the places of its head's variables.
use Rattle.std.specs.Prelude.{List, [], ◌∷◌, map}
use Rattle.vocabulary.specs.declared.term.Term.{Term}
use Rattle.queries.specs.declared.query.Arg.{Arg}
use Rattle.queries.specs.declared.query.Arg.TheVariants.{Blank, Var, Fixed}
use Rattle.queries.specs.declared.query.Atom.{Atom}
use Rattle.queries.specs.declared.unify.Change.TheVariants.{Put}
use Rattle.queries.specs.Changes.{changed_atom}

-- the term in each place of the variable
abbrev pub put_term : Arg → Term → List Atom → List Atom
put_term Blank t atoms = atoms
put_term (Var v) t atoms = map (changed_atom (Put v (Fixed t))) atoms
put_term (Fixed u) t atoms = atoms

-- the terms of the tuple in the places of the head's variables
abbrev pub put_tuple : List Arg → List Term → List Atom → List Atom
put_tuple [] ts atoms = atoms
put_tuple (x ∷ xs) [] atoms = atoms
put_tuple (x ∷ xs) (t ∷ ts) atoms = put_tuple xs ts (put_term x t atoms)
