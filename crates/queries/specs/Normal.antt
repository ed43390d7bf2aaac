-- The normal form of a query.
use Rattle.std.specs.List.{list_any}
use Rattle.std.specs.Prelude.{ℕ, zero, suc, ◌+◌, Bool, ◌&&◌, List, [], ◌∷◌, map, length, nat_eq, if◌then◌else◌}
use Rattle.vocabulary.specs.declared.ids.VarId.{VarId}
use Rattle.queries.specs.declared.query.Arg.{Arg}
use Rattle.queries.specs.declared.query.Arg.TheVariants.{Blank, Var, Fixed}
use Rattle.queries.specs.declared.query.Atom.{Atom}
use Rattle.queries.specs.declared.query.Atom.TheVariants.{InClass, Linked}
use Rattle.queries.specs.declared.query.Query.{Query}
use Rattle.queries.specs.Occurrences.{count, head_count}
use Rattle.queries.specs.Order.{atom_same, atom_le}

-- a variable that is not in the head and stands once
abbrev pub is_lone : List Arg → List Atom → VarId → Bool
is_lone head atoms v = nat_eq (head_count v head) 0 && nat_eq (count v atoms) 1

-- a lone variable becomes Blank
abbrev pub blank_arg : List Arg → List Atom → Arg → Arg
blank_arg head atoms Blank = Blank
blank_arg head atoms (Var v) = if is_lone head atoms v then Blank else Var v
blank_arg head atoms (Fixed t) = Fixed t

abbrev pub blank_atom : List Arg → List Atom → Atom → Atom
blank_atom head atoms (InClass a x) = InClass a (blank_arg head atoms x)
blank_atom head atoms (Linked p x y) = Linked p (blank_arg head atoms x) (blank_arg head atoms y)

-- the atom stands among the atoms
abbrev pub stands_in : Atom → List Atom → Bool
stands_in a atoms = list_any (atom_same a) atoms

-- repeated atoms go
abbrev pub distinct : List Atom → List Atom
distinct [] = []
distinct (a ∷ atoms) = if stands_in a atoms then distinct atoms else a ∷ distinct atoms

-- lone variables become Blank, then repeated atoms go
abbrev pub tidied : List Arg → List Atom → List Atom
tidied head atoms = distinct (map (blank_atom head atoms) atoms)

abbrev pub tidied_times : ℕ → List Arg → List Atom → List Atom
tidied_times zero head atoms = atoms
tidied_times (suc n) head atoms = tidied_times n head (tidied head atoms)

-- tidied until nothing changes: each time but the last an atom goes
abbrev pub settled : List Arg → List Atom → List Atom
settled head atoms = tidied_times (length atoms + 1) head atoms

-- an atom put before the first that is not less
abbrev pub put_in : Atom → List Atom → List Atom
put_in a [] = a ∷ []
put_in a (b ∷ atoms) = if atom_le a b then a ∷ b ∷ atoms else b ∷ put_in a atoms

-- the atoms in order
abbrev pub in_order : List Atom → List Atom
in_order [] = []
in_order (a ∷ atoms) = put_in a (in_order atoms)

-- tidied until nothing changes, then the atoms in order
abbrev pub normal_form : Query → Query
normal_form q = record { head = q.head; atoms = in_order (settled q.head q.atoms) }
