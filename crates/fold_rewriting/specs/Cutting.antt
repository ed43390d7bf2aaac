-- A query without what is asked of one fresh term, computed: the arguments beside a variable become one, and its atoms go.
use Rattle.std.specs.Prelude.{ℕ, zero, suc, Bool, true, false, ◌&&◌, ◌||◌, not, nat_eq, List, ◌∷◌, Option, Some, None, filter, option_map, slice_get, take, length}
use Rattle.std.specs.List.{list_any, remove}
use Rattle.std.specs.Option.{option_and_then}
use Rattle.vocabulary.specs.declared.ids.VarId.{VarId}
use Rattle.dllite_axioms.specs.declared.axioms.Basic.{Basic}
use Rattle.queries.specs.declared.query.Arg.{Arg}
use Rattle.queries.specs.declared.query.Arg.TheVariants.{Blank, Var, Fixed}
use Rattle.queries.specs.declared.query.Atom.{Atom}
use Rattle.queries.specs.declared.query.Atom.TheVariants.{InClass, Linked}
use Rattle.queries.specs.declared.query.Query.{Query}
use Rattle.queries.specs.declared.unify.Change.{Change}
use Rattle.queries.specs.declared.unify.Change.TheVariants.{Keep, Put}
use Rattle.queries.specs.declared.unify.Meeting.{Meeting}
use Rattle.queries.specs.Changes.{substituted}
use Rattle.queries.specs.Normal.{normal_form}
use Rattle.queries.specs.Unifying.{met}
use Rattle.perfect_rewriting.specs.Reach.{query_at}
use Rattle.perfect_rewriting.specs.Steps.{atom_of}
use Rattle.fold_rewriting.specs.declared.cutting.Cut.{Cut}

abbrev pub is_var : VarId → Arg → Bool
is_var v Blank = false
is_var v (Var w) = nat_eq w.0 v.0
is_var v (Fixed t) = false

abbrev pub has_var : VarId → Atom → Bool
has_var v (InClass a x) = is_var v x
has_var v (Linked p x y) = is_var v x || is_var v y

-- the argument beside a variable that stands at one end, and not at both
abbrev pub other_end : Bool → Bool → Arg → Arg → Option Arg
other_end true true x y = None
other_end true false x y = Some y
other_end false true x y = Some x
other_end false false x y = None

abbrev pub parent_in : VarId → Atom → Option Arg
parent_in v (InClass a x) = None
parent_in v (Linked p x y) = other_end (is_var v x) (is_var v y) x y

abbrev pub without : VarId → List Atom → List Atom
without v atoms = filter (λ a. not (has_var v a)) atoms

abbrev pub changed_query : Change → Query → Query
changed_query Keep q = q
changed_query (Put v y) q = substituted v y q

-- the parent becomes one argument with another, if it is there
abbrev pub joined : Cut → Meeting → Cut
joined c m = record { query = changed_query m.change c.query; parent = m.arg }

abbrev pub taken : Cut → Option Arg → Option Cut
taken c None = Some c
taken c (Some x) = option_map (joined c) (met c.parent x)

abbrev pub taken_at : VarId → ℕ → Cut → Option Cut
taken_at v n c = option_and_then (λ a. taken c (parent_in v a)) (slice_get c.query.atoms n)

-- the arguments beside the variable in the first n atoms become one
abbrev pub merged : VarId → Query → ℕ → Option Cut
merged v q zero = Some (record { query = q; parent = Blank })
merged v q (suc n) = option_and_then (taken_at v n) (merged v q n)

-- the atoms of the variable go
abbrev pub left_out : VarId → Cut → Cut
left_out v c = record { query = query_at c.query.head (without v c.query.atoms); parent = c.parent }

-- one atom goes
abbrev pub cut_blank : Query → ℕ → Arg → Cut
cut_blank q i z = record { query = query_at q.head (remove q.atoms i); parent = z }

-- what is left where an argument of an atom is folded, and its parent; the argument beside it is the parent of a Blank
abbrev pub cut_of : Query → ℕ → Arg → Arg → Option Cut
cut_of q i z Blank = Some (cut_blank q i z)
cut_of q i z (Var v) = option_map (left_out v) (merged v q (length q.atoms))
cut_of q i z (Fixed t) = None

-- a variable that is not in the head, at its first atom, or a Blank
abbrev pub is_free : Query → ℕ → Arg → Bool
is_free q i Blank = true
is_free q i (Var v) = not (list_any (is_var v) q.head) && not (list_any (has_var v) (take i q.atoms))
is_free q i (Fixed t) = false

-- the axiom's left side is asked of the parent
abbrev pub folded : Cut → Basic → Query
folded c l = normal_form (query_at c.query.head (atom_of l c.parent ∷ c.query.atoms))
