-- The order of arguments, atoms and queries.
use Rattle.std.specs.Prelude.{ℕ, Bool, List, [], ◌∷◌, length}
use Rattle.std.specs.declared.cmp.Ordering.{Ordering}
use Rattle.std.specs.declared.cmp.Ordering.TheVariants.{Less, Equal, Greater}
use Rattle.std.specs.Ordering.{nat_cmp, ordering_then, is_eq, is_le}
use Rattle.std.specs.Cmp.Lexicographic.{slice_cmp}
use Rattle.vocabulary.specs.declared.ids.Dir.{Dir}
use Rattle.vocabulary.specs.declared.ids.Dir.TheVariants.{Fwd, Back}
use Rattle.vocabulary.specs.declared.ids.ValueKind.{ValueKind}
use Rattle.vocabulary.specs.declared.ids.ValueKind.TheVariants.{Text, Int, Bool as BoolKind, Time}
use Rattle.vocabulary.specs.declared.term.Term.{Term, New', Named, Value, end_of-Term, more_of-Term}
use Rattle.vocabulary.specs.Terms.{text_of}
use Rattle.vocabulary.specs.Texts.{text_cmp}
use Rattle.queries.specs.declared.query.Arg.{Arg}
use Rattle.queries.specs.declared.query.Arg.TheVariants.{Blank, Var, Fixed}
use Rattle.queries.specs.declared.query.Atom.{Atom}
use Rattle.queries.specs.declared.query.Atom.TheVariants.{InClass, Linked}
use Rattle.queries.specs.declared.query.Query.{Query}

-- values of one text by kind: text, int, bool, time
abbrev pub kind_rank : ValueKind → ℕ
kind_rank Text = 1
kind_rank Int = 2
kind_rank BoolKind = 3
kind_rank Time = 4

-- of one text, objects come before values
abbrev pub term_rank : Term → ℕ
term_rank (Named text) = 0
term_rank (Value kind text) = kind_rank kind
term_rank (New' p d s (more_of-Term t end_of-Term)) = term_rank t

abbrev pub dir_rank : Dir → ℕ
dir_rank Fwd = 0
dir_rank Back = 1

-- the links by which a fresh term comes from a known one; none for a known term
abbrev pub births : Term → List ℕ
births (Named text) = []
births (Value kind text) = []
births (New' p d s (more_of-Term t end_of-Term)) = p.0 ∷ dir_rank d ∷ births t

-- constants by the bytes of their texts, then by sort; a fresh term, which no query has, comes after the known one from which it is nested
abbrev pub term_cmp : Term → Term → Ordering
term_cmp t u = ordering_then (text_cmp (text_of t) (text_of u)) (ordering_then (nat_cmp (term_rank t) (term_rank u)) (text_cmp (births t) (births u)))

-- tuples by their first terms that differ; the front of a tuple comes before it
abbrev pub tuple_cmp : List Term → List Term → Ordering
tuple_cmp ts us = slice_cmp term_cmp ts us

-- Blank first, then variables by number, then constants
abbrev pub arg_cmp : Arg → Arg → Ordering
arg_cmp Blank Blank = Equal
arg_cmp Blank (Var w) = Less
arg_cmp Blank (Fixed u) = Less
arg_cmp (Var v) Blank = Greater
arg_cmp (Var v) (Var w) = nat_cmp v.0 w.0
arg_cmp (Var v) (Fixed u) = Less
arg_cmp (Fixed t) Blank = Greater
arg_cmp (Fixed t) (Var w) = Greater
arg_cmp (Fixed t) (Fixed u) = term_cmp t u

-- classes by number and argument, then links by number, first and second argument
abbrev pub atom_cmp : Atom → Atom → Ordering
atom_cmp (InClass a x) (InClass b y) = ordering_then (nat_cmp a.0 b.0) (arg_cmp x y)
atom_cmp (InClass a x) (Linked q y z) = Less
atom_cmp (Linked p x w) (InClass b y) = Greater
atom_cmp (Linked p x w) (Linked q y z) = ordering_then (nat_cmp p.0 q.0) (ordering_then (arg_cmp x y) (arg_cmp w z))

-- fewer atoms first, then by the first difference of the heads, then of the atoms; the front of a list comes before it
abbrev pub query_cmp : Query → Query → Ordering
query_cmp q r = ordering_then (nat_cmp (length q.atoms) (length r.atoms)) (ordering_then (slice_cmp arg_cmp q.head r.head) (slice_cmp atom_cmp q.atoms r.atoms))

abbrev pub atom_same : Atom → Atom → Bool
atom_same a b = is_eq (atom_cmp a b)

abbrev pub atom_le : Atom → Atom → Bool
atom_le a b = is_le (atom_cmp a b)
