-- Replacing variables, and making one atom of two.
use Rattle.std.specs.Prelude.{◌≡◌, ◌<◌, List, ◌∷◌, map, nat_eq, if◌then◌else◌}
use Rattle.vocabulary.specs.declared.ids.ClassId.{ClassId}
use Rattle.vocabulary.specs.declared.ids.LinkId.{LinkId}
use Rattle.vocabulary.specs.declared.ids.VarId.{VarId}
use Rattle.vocabulary.specs.declared.term.Term.{Term}
use Rattle.vocabulary.specs.Lists.{Picks}
use Rattle.queries.specs.declared.query.Arg.{Arg}
use Rattle.queries.specs.declared.query.Arg.TheVariants.{Blank, Var, Fixed}
use Rattle.queries.specs.declared.query.Atom.{Atom}
use Rattle.queries.specs.declared.query.Atom.TheVariants.{InClass, Linked}
use Rattle.queries.specs.declared.query.Query.{Query}
use Rattle.queries.specs.declared.unify.Change.{Change}
use Rattle.queries.specs.declared.unify.Change.TheVariants.{Keep, Put}

abbrev pub changed : Change → Arg → Arg
changed Keep x = x
changed (Put v y) Blank = Blank
changed (Put v y) (Var w) = if nat_eq w.0 v.0 then y else Var w
changed (Put v y) (Fixed t) = Fixed t

abbrev pub changed_atom : Change → Atom → Atom
changed_atom c (InClass a x) = InClass a (changed c x)
changed_atom c (Linked p x y) = Linked p (changed c x) (changed c y)

-- the query with a variable replaced, in the head too
abbrev pub substituted : VarId → Arg → Query → Query
substituted v y q = record { head = map (changed (Put v y)) q.head; atoms = map (changed_atom (Put v y)) q.atoms }

-- two arguments become one, and what is replaced for it: a Blank becomes the other, the higher variable the lower, a variable the constant; two different constants do not meet
pub data Meets : Arg → Arg → Change → Arg → Type 0 where
  blank_left : {y : Arg} → Meets Blank y Keep y
  blank_right : {x : Arg} → Meets x Blank Keep x
  same_var : {v w : VarId} → v ≡ w → Meets (Var v) (Var w) Keep (Var v)
  left_lower : {v w : VarId} → v.0 < w.0 → Meets (Var v) (Var w) (Put w (Var v)) (Var v)
  right_lower : {v w : VarId} → w.0 < v.0 → Meets (Var v) (Var w) (Put v (Var w)) (Var w)
  var_left : {v : VarId} {t : Term} → Meets (Var v) (Fixed t) (Put v (Fixed t)) (Fixed t)
  var_right : {v : VarId} {t : Term} → Meets (Fixed t) (Var v) (Put v (Fixed t)) (Fixed t)
  same_fixed : {t u : Term} → t ≡ u → Meets (Fixed t) (Fixed u) Keep (Fixed t)

-- two atoms of one class or link become one, argument by argument: the second arguments meet as the first change leaves them
pub data AtomsMeet : Atom → Atom → Change → Change → Atom → Type 0 where
  class_meet : {a : ClassId} {x y z : Arg} {c : Change} → Meets x y c z → AtomsMeet (InClass a x) (InClass a y) c Keep (InClass a z)
  link_meet : {p : LinkId} {x y x' y' z w : Arg} {c e : Change} → Meets x x' c z → Meets (changed c y) (changed c y') e w →
      AtomsMeet (Linked p x y) (Linked p x' y') c e (Linked p (changed e z) w)

-- the unify step (reduce): two atoms of a query become one, and what is replaced for it is replaced in the rest and in the head
pub data UnifyStep : List Arg → List Atom → List Arg → List Atom → Type 0 where
  unify : {head : List Arg} {a b m : Atom} {c e : Change} {atoms one rest : List Atom} → Picks a atoms one → Picks b one rest → AtomsMeet a b c e m →
      UnifyStep head atoms (map (λ x. changed e (changed c x)) head) (m ∷ map (λ k. changed_atom e (changed_atom c k)) rest)
