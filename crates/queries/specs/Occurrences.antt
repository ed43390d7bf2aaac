-- Where variables stand, and which constants.
use Rattle.std.specs.Prelude.{ℕ, ◌≡◌, ◌≢◌, ◌≤◌, ◌+◌, List, [], ◌∷◌, nat_eq, if◌then◌else◌, ◌⊎◌}
use Rattle.vocabulary.specs.declared.ids.VarId.{VarId}
use Rattle.vocabulary.specs.Lists.{In}
use Rattle.vocabulary.specs.Terms.{IsKnown}
use Rattle.queries.specs.declared.query.Arg.{Arg}
use Rattle.queries.specs.declared.query.Arg.TheVariants.{Blank, Var, Fixed}
use Rattle.queries.specs.declared.query.Atom.{Atom}
use Rattle.queries.specs.declared.query.Atom.TheVariants.{InClass, Linked}
use Rattle.queries.specs.declared.query.Query.{Query}

-- how often a variable stands in an argument, an atom, a list
abbrev pub occurs : VarId → Arg → ℕ
occurs v Blank = 0
occurs v (Var w) = if nat_eq w.0 v.0 then 1 else 0
occurs v (Fixed t) = 0

abbrev pub atom_occurs : VarId → Atom → ℕ
atom_occurs v (InClass a x) = occurs v x
atom_occurs v (Linked p x y) = occurs v x + occurs v y

abbrev pub count : VarId → List Atom → ℕ
count v [] = 0
count v (a ∷ atoms) = atom_occurs v a + count v atoms

abbrev pub head_count : VarId → List Arg → ℕ
head_count v [] = 0
head_count v (x ∷ xs) = occurs v x + head_count v xs

-- a constant is known
abbrev pub KnownArg : Arg → Type 0
KnownArg Blank = Unit {0}
KnownArg (Var v) = Unit {0}
KnownArg (Fixed t) = IsKnown t

abbrev pub KnownAtom : Atom → Type 0
KnownAtom (InClass a x) = KnownArg x
KnownAtom (Linked p x y) = KnownArg x × KnownArg y

-- the constants of the atoms are known
abbrev pub KnownConstants : Query → Type 0
KnownConstants q = (a : Atom) → In a q.atoms → KnownAtom a

-- each variable is in the head, or does not stand in exactly one place
abbrev pub NoLoneVariable : List Arg → List Atom → Type 0
NoLoneVariable head atoms = (v : VarId) → (1 ≤ head_count v head) ⊎ (count v atoms ≢ 1)

-- a head place has a known constant, or a variable that some atom has
abbrev pub HeadStands : Query → Type 0
HeadStands q = (x : Arg) → In x q.head → KnownArg x × (x ≢ Blank) × ((v : VarId) → x ≡ Var v → 1 ≤ count v q.atoms)
