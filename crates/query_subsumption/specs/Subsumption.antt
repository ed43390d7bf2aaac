-- When a query of a list stands for another (containment of conjunctive queries, by a homomorphism), and which queries are kept.
use Rattle.std.specs.Prelude.{◌≡◌, ◌≢◌, ◌⊎◌, ℕ, ◌+◌, ◌<◌, max, List, [], ◌∷◌, map, Some, slice_get}
use Rattle.vocabulary.specs.declared.ids.VarId.{VarId}
use Rattle.vocabulary.specs.Lists.{In}
use Rattle.queries.specs.declared.query.Arg.{Arg}
use Rattle.queries.specs.declared.query.Arg.TheVariants.{Blank, Var, Fixed}
use Rattle.queries.specs.declared.query.Atom.{Atom}
use Rattle.queries.specs.declared.query.Atom.TheVariants.{InClass, Linked}
use Rattle.queries.specs.declared.query.Query.{Query}

-- one more than the number of a variable, and 0 for what is none
abbrev pub past_arg : Arg → ℕ
past_arg Blank = 0
past_arg (Var v) = v.0 + 1
past_arg (Fixed t) = 0

abbrev pub past_args : List Arg → ℕ
past_args [] = 0
past_args (x ∷ xs) = max (past_arg x) (past_args xs)

abbrev pub past_atom : Atom → ℕ
past_atom (InClass c x) = past_arg x
past_atom (Linked p x y) = max (past_arg x) (past_arg y)

abbrev pub past_atoms : List Atom → ℕ
past_atoms [] = 0
past_atoms (a ∷ atoms) = max (past_atom a) (past_atoms atoms)

-- a number that is greater than that of each variable
abbrev pub first_free : Query → ℕ
first_free q = max (past_args q.head) (past_atoms q.atoms)

abbrev pub blanks_in_arg : Arg → ℕ
blanks_in_arg Blank = 1
blanks_in_arg (Var v) = 0
blanks_in_arg (Fixed t) = 0

abbrev pub blanks_in_args : List Arg → ℕ
blanks_in_args [] = 0
blanks_in_args (x ∷ xs) = blanks_in_arg x + blanks_in_args xs

abbrev pub blanks_in_atom : Atom → ℕ
blanks_in_atom (InClass c x) = blanks_in_arg x
blanks_in_atom (Linked p x y) = blanks_in_arg x + blanks_in_arg y

-- each Blank as a variable of its own, from this number on
abbrev pub apart_arg : ℕ → Arg → Arg
apart_arg n Blank = Var (record { 0 = n })
apart_arg n (Var v) = Var v
apart_arg n (Fixed t) = Fixed t

abbrev pub apart_args : ℕ → List Arg → List Arg
apart_args n [] = []
apart_args n (x ∷ xs) = apart_arg n x ∷ apart_args (n + blanks_in_arg x) xs

abbrev pub apart_atom : ℕ → Atom → Atom
apart_atom n (InClass c x) = InClass c (apart_arg n x)
apart_atom n (Linked p x y) = Linked p (apart_arg n x) (apart_arg (n + blanks_in_arg x) y)

abbrev pub apart_atoms : ℕ → List Atom → List Atom
apart_atoms n [] = []
apart_atoms n (a ∷ atoms) = apart_atom n a ∷ apart_atoms (n + blanks_in_atom a) atoms

-- a query in which each Blank is a variable of its own
abbrev pub apart : Query → Query
apart q = record { head = apart_args (first_free q) q.head; atoms = apart_atoms (first_free q + blanks_in_args q.head) q.atoms }

-- what each variable is replaced by
abbrev pub Replacement : Type 0
Replacement = VarId → Arg

abbrev pub arg_image : Replacement → Arg → Arg
arg_image θ Blank = Blank
arg_image θ (Var v) = θ v
arg_image θ (Fixed t) = Fixed t

abbrev pub atom_image : Replacement → Atom → Atom
atom_image θ (InClass c x) = InClass c (arg_image θ x)
atom_image θ (Linked p x y) = Linked p (arg_image θ x) (arg_image θ y)

-- the replacement takes the head to the head, and each atom to one of the atoms
pub record IsMapping (θ : Replacement) (general special : Query) : Type 0 where
  pub heads : map (arg_image θ) general.head ≡ special.head
  pub atoms : (a : Atom) → In a general.atoms → In (atom_image θ a) special.atoms

-- some replacement maps the first query into the second, each Blank of either read as a variable of its own
abbrev pub MapsInto : Query → Query → Type 0
MapsInto general special = (θ : Replacement) × IsMapping θ (apart general) (apart special)

-- the query at a place of the list is dropped: another maps into it, and it does not map back, or the other stands before it
pub record IsDropped (queries : List Query) (at : ℕ) : Type 0 where
  pub other : ℕ
  pub general : Query
  pub special : Query
  pub other_is : slice_get queries other ≡ Some general
  pub this_is : slice_get queries at ≡ Some special
  pub differs : other ≢ at
  pub maps : MapsInto general special
  pub sooner : (MapsInto special general → ⊥) ⊎ (other < at)

-- what is kept of the queries from a place on
abbrev pub KeptFrom : List Query → ℕ → List Query → List Query → Type 0
KeptFrom queries at [] kept = kept ≡ []
KeptFrom queries at (q ∷ rest) kept =
    (IsDropped queries at × KeptFrom queries (at + 1) rest kept)
    ⊎ ((IsDropped queries at → ⊥) × (more : List Query) × (kept ≡ q ∷ more) × KeptFrom queries (at + 1) rest more)

-- the queries of a list that are not dropped, in its order
abbrev pub AreKept : List Query → List Query → Type 0
AreKept queries kept = KeptFrom queries 0 queries kept
