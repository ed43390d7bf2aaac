-- What a query must keep to be asked, and its first fault.
use Rattle.std.specs.Prelude.{ℕ, Bool, true, false, ◌&&◌, ◌+◌, ◌||◌, List, [], ◌∷◌, ◌++◌, length, not, nat_eq, nat_lt, if◌then◌else◌, Option, Some, None, unwrap_or, slice_get}
use Rattle.std.specs.List.{list_any}
use Rattle.vocabulary.specs.declared.ids.LinkId.{LinkId}
use Rattle.vocabulary.specs.declared.ids.Side.{Side}
use Rattle.vocabulary.specs.declared.ids.Side.TheVariants.{Object, Value}
use Rattle.vocabulary.specs.Lists.{In}
use Rattle.queries.specs.declared.check.QueryFault.{QueryFault}
use Rattle.queries.specs.declared.check.QueryFault.TheVariants.{TooLarge, MixedSort, HeadUnbound}
use Rattle.queries.specs.declared.query.Arg.{Arg}
use Rattle.queries.specs.declared.query.Arg.TheVariants.{Blank, Var, Fixed}
use Rattle.queries.specs.declared.query.Atom.{Atom}
use Rattle.queries.specs.declared.query.Atom.TheVariants.{InClass, Linked}
use Rattle.queries.specs.declared.query.Query.{Query}
use Rattle.queries.specs.Occurrences.{count, head_count, KnownArg}
use Rattle.queries.specs.Order.{kind_rank}

-- the arguments of atoms, in order
abbrev pub args_of : List Atom → List Arg
args_of [] = []
args_of (InClass a x ∷ atoms) = x ∷ args_of atoms
args_of (Linked p x y ∷ atoms) = x ∷ y ∷ args_of atoms

-- a variable that stands in none of the arguments
abbrev pub is_new : Arg → List Arg → Bool
is_new Blank xs = false
is_new (Var v) xs = nat_eq (head_count v xs) 0
is_new (Fixed t) xs = false

-- how many different variables there are
abbrev pub different : List Arg → ℕ
different [] = 0
different (x ∷ xs) = (if is_new x xs then 1 else 0) + different xs

-- over 16 atoms, 16 head places or 16 variables
abbrev pub is_large : Query → Bool
is_large q = nat_lt 16 (length q.atoms) || (nat_lt 16 (length q.head) || nat_lt 16 (different (q.head ++ args_of q.atoms)))

-- the sort of the second place of a link: objects for one that is not listed
abbrev pub second_side : List Side → LinkId → Side
second_side sides p = unwrap_or (slice_get sides p.0) Object

-- the arguments of an atom with the sorts of their places: a class and the first place of a link are of objects
abbrev pub places : List Side → Atom → List (Arg × Side)
places sides (InClass a x) = (x, Object) ∷ []
places sides (Linked p x y) = (x, Object) ∷ (y, second_side sides p) ∷ []

abbrev pub same_sort : Side → Side → Bool
same_sort Object Object = true
same_sort Object (Value l) = false
same_sort (Value k) Object = false
same_sort (Value k) (Value l) = nat_eq (kind_rank k) (kind_rank l)

-- one variable, at places of two sorts
abbrev pub are_apart : Arg → Side → Arg → Side → Bool
are_apart (Var v) s (Var w) t = nat_eq v.0 w.0 && not (same_sort s t)
are_apart (Var v) s Blank t = false
are_apart (Var v) s (Fixed u) t = false
are_apart Blank s y t = false
are_apart (Fixed u) s y t = false

-- the argument stands in the atom at another sort
abbrev pub stands_apart : List Side → Arg → Side → Atom → Bool
stands_apart sides x s b = list_any (λ place. are_apart x s place.0 place.1) (places sides b)

-- a place of the atom and one of these atoms have one variable and two sorts
abbrev pub mixed_with : List Side → List Atom → Atom → Bool
mixed_with sides atoms a = list_any (λ place. list_any (stands_apart sides place.0 place.1) atoms) (places sides a)

-- some variable stands at two sorts
abbrev pub is_mixed : List Side → List Atom → Bool
is_mixed sides atoms = list_any (mixed_with sides atoms) atoms

-- a Blank, or a variable that stands in no atom
abbrev pub is_unbound : List Atom → Arg → Bool
is_unbound atoms Blank = true
is_unbound atoms (Var v) = nat_eq (count v atoms) 0
is_unbound atoms (Fixed t) = false

-- the first fault of a query, where the links have these sorts at their second places
abbrev pub query_fault : List Side → Query → Option QueryFault
query_fault sides q =
    if is_large q then Some TooLarge
    else (if is_mixed sides q.atoms then Some MixedSort else (if list_any (is_unbound q.atoms) q.head then Some HeadUnbound else None))

-- the constants of the head are known
abbrev pub KnownHead : Query → Type 0
KnownHead q = (x : Arg) → In x q.head → KnownArg x
