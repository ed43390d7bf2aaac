-- A query cut in two: some of its atoms, and the others.
use Rattle.std.specs.Prelude.{◌≡◌, ◌≤◌, ◌↔◌, ◌⊎◌, List, map}
use Rattle.vocabulary.specs.declared.ids.VarId.{VarId}
use Rattle.vocabulary.specs.Lists.{In}
use Rattle.queries.specs.declared.query.Arg.{Arg}
use Rattle.queries.specs.declared.query.Arg.TheVariants.{Var}
use Rattle.queries.specs.declared.query.Atom.{Atom}
use Rattle.queries.specs.declared.query.Query.{Query}
use Rattle.queries.specs.Occurrences.{count}

-- the variable stands in the other atoms, or in the head
abbrev pub IsNeeded : List Atom → List Arg → VarId → Type 0
IsNeeded others head v = (1 ≤ count v others) ⊎ In (Var v) head

-- the variables of some atoms that stand in the others too, or in the head
abbrev pub AreShared : List Atom → List Atom → List Arg → List VarId → Type 0
AreShared own others head vars = (v : VarId) → In v vars ↔ ((1 ≤ count v own) × IsNeeded others head v)

-- one query has some of the atoms and the other the rest; the head of each is its variables that the other or the whole needs
pub record IsCut (q one rest : Query) (vars more : List VarId) : Type 0 where
  pub atoms : (a : Atom) → In a q.atoms ↔ (In a one.atoms ⊎ In a rest.atoms)
  pub first : AreShared one.atoms rest.atoms q.head vars
  pub second : AreShared rest.atoms one.atoms q.head more
  pub first_head : one.head ≡ map Var vars
  pub second_head : rest.head ≡ map Var more

-- the second query has the atoms of the first, and its head each variable that stands in them
pub record HasAllVariables (q full : Query) : Type 0 where
  pub vars : List VarId
  pub atoms : full.atoms ≡ q.atoms
  pub head : full.head ≡ map Var vars
  pub stand : (v : VarId) → In v vars ↔ (1 ≤ count v q.atoms)
