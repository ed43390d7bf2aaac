-- The unify step, computed: what two atoms become, and the query in which they do.
use Rattle.std.specs.Prelude.{ℕ, List, ◌∷◌, map, nat_eq, nat_lt, if◌then◌else◌, Option, Some, None, option_map, slice_get}
use Rattle.std.specs.List.{remove}
use Rattle.std.specs.Option.{option_and_then}
use Rattle.std.specs.Ordering.{is_eq}
use Rattle.vocabulary.specs.declared.ids.ClassId.{ClassId}
use Rattle.vocabulary.specs.declared.ids.LinkId.{LinkId}
use Rattle.vocabulary.specs.declared.ids.VarId.{VarId}
use Rattle.vocabulary.specs.declared.term.Term.{Term}
use Rattle.queries.specs.declared.query.Arg.{Arg}
use Rattle.queries.specs.declared.query.Arg.TheVariants.{Blank, Var, Fixed}
use Rattle.queries.specs.declared.query.Atom.{Atom}
use Rattle.queries.specs.declared.query.Atom.TheVariants.{InClass, Linked}
use Rattle.queries.specs.declared.query.Query.{Query}
use Rattle.queries.specs.declared.unify.Change.TheVariants.{Keep, Put}
use Rattle.queries.specs.declared.unify.Meeting.{Meeting}
use Rattle.queries.specs.declared.unify.Union.{Union}
use Rattle.queries.specs.Changes.{changed, changed_atom}
use Rattle.queries.specs.Normal.{normal_form}
use Rattle.queries.specs.Order.{term_cmp}

abbrev pub kept_arg : Arg → Meeting
kept_arg x = record { change = Keep; arg = x }

abbrev pub fixed : VarId → Term → Meeting
fixed v t = record { change = Put v (Fixed t); arg = Fixed t }

-- the lower variable, for which the higher is replaced
abbrev pub lower : VarId → VarId → Meeting
lower v w =
    if nat_eq v.0 w.0 then kept_arg (Var v)
    else (if nat_lt v.0 w.0 then record { change = Put w (Var v); arg = Var v } else record { change = Put v (Var w); arg = Var w })

-- what two arguments become; none for two different constants
abbrev pub met : Arg → Arg → Option Meeting
met Blank y = Some (kept_arg y)
met (Var v) Blank = Some (kept_arg (Var v))
met (Var v) (Var w) = Some (lower v w)
met (Var v) (Fixed t) = Some (fixed v t)
met (Fixed t) Blank = Some (kept_arg (Fixed t))
met (Fixed t) (Var w) = Some (fixed w t)
met (Fixed t) (Fixed u) = if is_eq (term_cmp t u) then Some (kept_arg (Fixed t)) else None

abbrev pub class_met : ClassId → Meeting → Union
class_met a m = record { first = m.change; second = Keep; atom = InClass a m.arg }

abbrev pub link_met : LinkId → Meeting → Meeting → Union
link_met p m n = record { first = m.change; second = n.change; atom = Linked p (changed n.change m.arg) n.arg }

-- the second arguments meet as the first change leaves them
abbrev pub further_met : LinkId → Arg → Arg → Meeting → Option Union
further_met p y w m = option_map (link_met p m) (met (changed m.change y) (changed m.change w))

abbrev pub links_met : LinkId → Arg → Arg → Arg → Arg → Option Union
links_met p x y z w = option_and_then (further_met p y w) (met x z)

-- what two atoms become; none where they do not unify
abbrev pub atoms_met : Atom → Atom → Option Union
atoms_met (InClass a x) (InClass b y) = if nat_eq a.0 b.0 then option_map (class_met a) (met x y) else None
atoms_met (InClass a x) (Linked q z w) = None
atoms_met (Linked p x y) (InClass b z) = None
atoms_met (Linked p x y) (Linked q z w) = if nat_eq p.0 q.0 then links_met p x y z w else None

abbrev pub changed_both : Union → Arg → Arg
changed_both u x = changed u.second (changed u.first x)

abbrev pub changed_both_atom : Union → Atom → Atom
changed_both_atom u a = changed_atom u.second (changed_atom u.first a)

-- the list without the items at two places
abbrev pub others : {X : Type 0} → ℕ → ℕ → List X → List X
others i j xs = if nat_lt i j then remove (remove xs j) i else remove (remove xs i) j

-- the query in which the atoms at two places are one
abbrev pub joined : Query → ℕ → ℕ → Union → Query
joined q i j u = record { head = map (changed_both u) q.head; atoms = u.atom ∷ map (changed_both_atom u) (others i j q.atoms) }

-- the unify step for the atoms at two places; none where they do not unify
abbrev pub unify_at : Query → ℕ → ℕ → Option Query
unify_at q i j = option_and_then (λ a. option_and_then (λ b. option_map (joined q i j) (atoms_met a b)) (slice_get q.atoms j)) (slice_get q.atoms i)

-- its normal form
abbrev pub unified : Query → ℕ → ℕ → Option Query
unified q i j = option_map normal_form (unify_at q i j)
