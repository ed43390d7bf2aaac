-- Rows of terms under variables, and what two lists of rows give together.
use Rattle.std.specs.Prelude.{◌≡◌, ◌↔◌, ◌⊎◌, ℕ, List, [], ◌∷◌, map, nat_eq, slice_get, if◌then◌else◌, Option, Some, None}
use Rattle.vocabulary.specs.declared.ids.VarId.{VarId}
use Rattle.vocabulary.specs.declared.term.Term.{Term}
use Rattle.vocabulary.specs.Lists.{In}
use Rattle.queries.specs.declared.query.Arg.{Arg}
use Rattle.queries.specs.declared.query.Arg.TheVariants.{Blank, Var, Fixed}
use Rattle.queries.specs.Matches.{HeadIs, Terms}

-- the row has some terms of the variables
abbrev pub IsRow : List VarId → List Term → Type 0
IsRow vars row = (σ : Terms) × (map σ vars ≡ row)

abbrev pub AreRows : List VarId → List (List Term) → Type 0
AreRows vars rows = (row : List Term) → In row rows → IsRow vars row

-- the same terms give both rows, and the tuple
abbrev pub IsPair : List VarId → List VarId → List Arg → List Term → List Term → List Term → Type 0
IsPair vars more head row other ts = (σ : Terms) × (map σ vars ≡ row) × (map σ more ≡ other) × HeadIs σ head ts

-- the tuple is of a row of the list and this one
abbrev pub IsWith : List VarId → List VarId → List Arg → List (List Term) → List Term → List Term → Type 0
IsWith vars more head rows other ts = (row : List Term) × In row rows × IsPair vars more head row other ts

-- the tuple is of the row of this number and this one
abbrev pub IsNumbered : List VarId → List VarId → List Arg → List (List Term) → List Term → ℕ → List Term → Type 0
IsNumbered vars more head rows other n ts = (row : List Term) × (slice_get rows n ≡ Some row) × IsPair vars more head row other ts

-- the tuple is of a row of one of these numbers and this one
abbrev pub IsListed : List VarId → List VarId → List Arg → List (List Term) → List ℕ → List Term → List Term → Type 0
IsListed vars more head rows numbers other ts = (n : ℕ) × In n numbers × IsNumbered vars more head rows other n ts

-- the tuple is of a row of each list (the natural join, and of it the columns of the head)
abbrev pub IsJoined : List VarId → List VarId → List Arg → List (List Term) → List (List Term) → List Term → Type 0
IsJoined vars more head rows others ts = (other : List Term) × In other others × IsWith vars more head rows other ts

-- a constant, or one of these variables
abbrev pub IsOf : List VarId → Arg → Type 0
IsOf vars Blank = ⊥
IsOf vars (Var v) = In v vars
IsOf vars (Fixed t) = Unit {0}

abbrev pub AreOf : List VarId → List Arg → Type 0
AreOf vars head = (x : Arg) → In x head → IsOf vars x

-- the new list has what the old one has and what P holds of, and no more
abbrev pub Gains : (List Term → Type 0) → List (List Term) → List (List Term) → Type 0
Gains P old new = (ts : List Term) → In ts new ↔ (In ts old ⊎ P ts)

-- the term of a variable in a row, where it first stands
abbrev pub value_in : List VarId → List Term → VarId → Option Term
value_in [] row v = None
value_in (w ∷ vars) [] v = None
value_in (w ∷ vars) (t ∷ row) v = if nat_eq w.0 v.0 then Some t else value_in vars row v

-- the variable has one term where both rows have one
abbrev pub AgreeAt : List VarId → List VarId → List Term → List Term → VarId → Type 0
AgreeAt vars more row other v = (t u : Term) → value_in vars row v ≡ Some t → value_in more other v ≡ Some u → t ≡ u
