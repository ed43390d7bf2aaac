-- The order is total, and tells queries apart.
use Rattle.std.proofs.Common.{ℕ, ◌≡◌, refl, sym, ◌∙◌, ap, subst, ◌≤◌, true, List, [], ◌∷◌, length, arith}
use Rattle.std.specs.declared.cmp.Ordering.{Ordering}
use Rattle.std.specs.declared.cmp.Ordering.TheVariants.{Less, Equal, Greater}
use Rattle.std.specs.Ordering.{nat_cmp, ordering_then, is_eq}
use Rattle.std.specs.Cmp.{IsTotalOrder, Equal-is, on_total, ranked, then_total}
use Rattle.std.specs.Cmp.Lexicographic.{slice_cmp}
use Rattle.std.proofs.lemmas.Cmp.{lists_total, nat_cmp_total, nat_list_cmp_total, tied_itself}
use Rattle.std.proofs.lemmas.Map.Text.{is_eq-slice_cmp}
use Rattle.std.proofs.lemmas.Slice.Eq.{bytes_eq-Decides}
use Rattle.vocabulary.specs.declared.ids.Dir.{Dir}
use Rattle.vocabulary.specs.declared.ids.Dir.TheVariants.{Fwd, Back}
use Rattle.vocabulary.specs.declared.ids.ValueKind.{ValueKind}
use Rattle.vocabulary.specs.declared.ids.ValueKind.TheVariants.{Text, Int, Bool as BoolKind, Time}
use Rattle.vocabulary.specs.declared.term.Term.{Term, New, New', Named, Value, end_of-Term, more_of-Term}
use Rattle.vocabulary.specs.Terms.{text_of}
use Rattle.vocabulary.specs.Texts.{text_cmp}
use Rattle.vocabulary.proofs.Fresh.{open_new}
use Rattle.queries.specs.declared.query.Arg.{Arg}
use Rattle.queries.specs.declared.query.Arg.TheVariants.{Blank, Var, Fixed}
use Rattle.queries.specs.declared.query.Atom.{Atom}
use Rattle.queries.specs.declared.query.Atom.TheVariants.{InClass, Linked}
use Rattle.queries.specs.declared.query.Query.{Query}
use Rattle.queries.specs.Laws.{QueriesAreOrdered, TuplesAreOrdered}
use Rattle.queries.specs.Order.{kind_rank, term_rank, dir_rank, births, term_cmp, arg_cmp, atom_cmp, query_cmp, tuple_cmp, atom_same}

then_last : (o : Ordering) → ordering_then o Equal ≡ o
then_last Less = refl
then_last Equal = refl
then_last Greater = refl

then_equal : (a b : Ordering) → ordering_then a b ≡ Equal → (a ≡ Equal) × (b ≡ Equal)
then_equal Less b e = cc
then_equal Equal b e = (refl, e)
then_equal Greater b e = cc

-- terms
term_total : IsTotalOrder term_cmp
term_total = then_total (on_total text_of nat_list_cmp_total) (then_total (on_total term_rank nat_cmp_total) (on_total births nat_list_cmp_total))

number_level : (m n : ℕ) → nat_cmp m n ≡ Equal → m ≡ n
number_level m n e = ranked m n Equal (sym e)

text_level : (xs ys : List ℕ) → text_cmp xs ys ≡ Equal → xs ≡ ys
text_level xs ys e = (bytes_eq-Decides xs ys).0 (sym (is_eq-slice_cmp xs ys) ∙ ap is_eq e)

kind_least : (k : ValueKind) → 1 ≤ kind_rank k
kind_least Text = omega arith
kind_least Int = omega arith
kind_least BoolKind = omega arith
kind_least Time = omega arith

kind_from : (k l : ValueKind) → kind_rank k ≡ kind_rank l → k ≡ l
kind_from Text Text e = refl
kind_from Int Int e = refl
kind_from BoolKind BoolKind e = refl
kind_from Time Time e = refl
kind_from Text Int e = absurd (omega (arith, e))
kind_from Text BoolKind e = absurd (omega (arith, e))
kind_from Text Time e = absurd (omega (arith, e))
kind_from Int Text e = absurd (omega (arith, e))
kind_from Int BoolKind e = absurd (omega (arith, e))
kind_from Int Time e = absurd (omega (arith, e))
kind_from BoolKind Text e = absurd (omega (arith, e))
kind_from BoolKind Int e = absurd (omega (arith, e))
kind_from BoolKind Time e = absurd (omega (arith, e))
kind_from Time Text e = absurd (omega (arith, e))
kind_from Time Int e = absurd (omega (arith, e))
kind_from Time BoolKind e = absurd (omega (arith, e))

dir_from : (d e : Dir) → dir_rank d ≡ dir_rank e → d ≡ e
dir_from Fwd Fwd h = refl
dir_from Back Back h = refl
dir_from Fwd Back h = absurd (omega (arith, h))
dir_from Back Fwd h = absurd (omega (arith, h))

cons_head : {X : Type 0} {x y : X} {xs ys : List X} → x ∷ xs ≡ y ∷ ys → x ≡ y
cons_head e = cc

cons_tail : {X : Type 0} {x y : X} {xs ys : List X} → x ∷ xs ≡ y ∷ ys → xs ≡ ys
cons_tail e = cc

term_from : (t u : Term) → text_of t ≡ text_of u → term_rank t ≡ term_rank u → births t ≡ births u → t ≡ u
unfolding open_new
term_from (Named a) (Named b) e r s = ap Named e
term_from (Named a) (Value k b) e r s = absurd (omega (arith, kind_least k, r))
term_from (Named a) (New' q e' s' (more_of-Term u end_of-Term)) e r s = cc
term_from (Value k a) (Named b) e r s = absurd (omega (arith, kind_least k, r))
term_from (Value k a) (Value l b) e r s = λ i. Value (kind_from k l r i) (e i)
term_from (Value k a) (New' q e' s' (more_of-Term u end_of-Term)) e r s = cc
term_from (New' p d s' (more_of-Term t end_of-Term)) (Named b) e r s = cc
term_from (New' p d s' (more_of-Term t end_of-Term)) (Value l b) e r s = cc
term_from (New' p d s' (more_of-Term t end_of-Term)) (New' q e' s'' (more_of-Term u end_of-Term)) e r s =
    λ i. New (record { 0 = cons_head s i }) (dir_from d e' (cons_head (cons_tail s)) i) (term_from t u e r (cons_tail (cons_tail s)) i)

term_level : (t u : Term) → term_cmp t u ≡ Equal → t ≡ u
term_level t u e =
    let a = then_equal (text_cmp (text_of t) (text_of u)) (ordering_then (nat_cmp (term_rank t) (term_rank u)) (text_cmp (births t) (births u))) e in
    let b = then_equal (nat_cmp (term_rank t) (term_rank u)) (text_cmp (births t) (births u)) a.1 in
    term_from t u (text_level (text_of t) (text_of u) a.0) (number_level (term_rank t) (term_rank u) b.0) (text_level (births t) (births u) b.1)

-- arguments, by keys
abbrev arg_rank : Arg → ℕ
arg_rank Blank = 0
arg_rank (Var v) = 1
arg_rank (Fixed t) = 2

abbrev arg_number : Arg → ℕ
arg_number Blank = 0
arg_number (Var v) = v.0
arg_number (Fixed t) = 0

abbrev arg_text : Arg → List ℕ
arg_text Blank = []
arg_text (Var v) = []
arg_text (Fixed t) = text_of t

abbrev arg_kind : Arg → ℕ
arg_kind Blank = 0
arg_kind (Var v) = 0
arg_kind (Fixed t) = term_rank t

abbrev arg_births : Arg → List ℕ
arg_births Blank = []
arg_births (Var v) = []
arg_births (Fixed t) = births t

abbrev arg_keys : Arg → Arg → Ordering
arg_keys x y = ordering_then (nat_cmp (arg_rank x) (arg_rank y)) (ordering_then (nat_cmp (arg_number x) (arg_number y)) (
    ordering_then (text_cmp (arg_text x) (arg_text y)) (ordering_then (nat_cmp (arg_kind x) (arg_kind y)) (text_cmp (arg_births x) (arg_births y)))))

arg_is_keys : (x y : Arg) → arg_keys x y ≡ arg_cmp x y
arg_is_keys Blank Blank = refl
arg_is_keys Blank (Var w) = refl
arg_is_keys Blank (Fixed u) = refl
arg_is_keys (Var v) Blank = refl
arg_is_keys (Var v) (Var w) = then_last (nat_cmp v.0 w.0)
arg_is_keys (Var v) (Fixed u) = refl
arg_is_keys (Fixed t) Blank = refl
arg_is_keys (Fixed t) (Var w) = refl
arg_is_keys (Fixed t) (Fixed u) = refl

keys_total : IsTotalOrder arg_keys
keys_total = then_total (on_total arg_rank nat_cmp_total) (then_total (on_total arg_number nat_cmp_total) (
    then_total (on_total arg_text nat_list_cmp_total) (then_total (on_total arg_kind nat_cmp_total) (on_total arg_births nat_list_cmp_total))))

arg_total : IsTotalOrder arg_cmp
arg_total = subst IsTotalOrder (λ i. λ x y. arg_is_keys x y i) keys_total

arg_level : (x y : Arg) → arg_cmp x y ≡ Equal → x ≡ y
arg_level Blank Blank e = refl
arg_level Blank (Var w) e = cc
arg_level Blank (Fixed u) e = cc
arg_level (Var v) Blank e = cc
arg_level (Var v) (Var w) e = λ i. Var (record { 0 = number_level v.0 w.0 e i })
arg_level (Var v) (Fixed u) e = cc
arg_level (Fixed t) Blank e = cc
arg_level (Fixed t) (Var w) e = cc
arg_level (Fixed t) (Fixed u) e = ap Fixed (term_level t u e)

-- atoms, by keys
abbrev atom_rank : Atom → ℕ
atom_rank (InClass a x) = 0
atom_rank (Linked p x y) = 1

abbrev atom_number : Atom → ℕ
atom_number (InClass a x) = a.0
atom_number (Linked p x y) = p.0

abbrev first_arg : Atom → Arg
first_arg (InClass a x) = x
first_arg (Linked p x y) = x

abbrev second_arg : Atom → Arg
second_arg (InClass a x) = Blank
second_arg (Linked p x y) = y

abbrev atom_keys : Atom → Atom → Ordering
atom_keys a b = ordering_then (nat_cmp (atom_rank a) (atom_rank b)) (ordering_then (nat_cmp (atom_number a) (atom_number b)) (
    ordering_then (arg_cmp (first_arg a) (first_arg b)) (arg_cmp (second_arg a) (second_arg b))))

atom_is_keys : (a b : Atom) → atom_keys a b ≡ atom_cmp a b
atom_is_keys (InClass a x) (InClass b y) = ap (ordering_then (nat_cmp a.0 b.0)) (then_last (arg_cmp x y))
atom_is_keys (InClass a x) (Linked q y z) = refl
atom_is_keys (Linked p x w) (InClass b y) = refl
atom_is_keys (Linked p x w) (Linked q y z) = refl

atom_total : IsTotalOrder atom_cmp
atom_total = subst IsTotalOrder (λ i. λ a b. atom_is_keys a b i)
    (then_total (on_total atom_rank nat_cmp_total) (then_total (on_total atom_number nat_cmp_total) (then_total (on_total first_arg arg_total) (on_total second_arg arg_total))))

pub atom_level : (a b : Atom) → atom_cmp a b ≡ Equal → a ≡ b
atom_level (InClass a x) (InClass b y) e =
    let w = then_equal (nat_cmp a.0 b.0) (arg_cmp x y) e in
    λ i. InClass (record { 0 = number_level a.0 b.0 w.0 i }) (arg_level x y w.1 i)
atom_level (InClass a x) (Linked q y z) e = cc
atom_level (Linked p x w) (InClass b y) e = cc
atom_level (Linked p x w) (Linked q y z) e =
    let k = then_equal (nat_cmp p.0 q.0) (ordering_then (arg_cmp x y) (arg_cmp w z)) e in
    let l = then_equal (arg_cmp x y) (arg_cmp w z) k.1 in
    λ i. Linked (record { 0 = number_level p.0 q.0 k.0 i }) (arg_level x y l.0 i) (arg_level w z l.1 i)

pub atom_told : (a b : Atom) → atom_same a b ≡ true → a ≡ b
atom_told a b h = atom_level a b ((Equal-is (atom_cmp a b)).0 h)

-- lists and queries
list_level : {X : Type 0} (R : X → X → Ordering) → ((x y : X) → R x y ≡ Equal → x ≡ y) → (xs ys : List X) → slice_cmp R xs ys ≡ Equal → xs ≡ ys
list_level R l [] [] e = refl
list_level R l [] (y ∷ ys) e = cc
list_level R l (x ∷ xs) [] e = cc
list_level R l (x ∷ xs) (y ∷ ys) e =
    let w = then_equal (R x y) (slice_cmp R xs ys) e in
    λ i. l x y w.0 i ∷ list_level R l xs ys w.1 i

query_total : IsTotalOrder query_cmp
query_total = then_total (on_total (λ q. length q.atoms) nat_cmp_total) (then_total (on_total (λ q. q.head) (lists_total arg_total)) (on_total (λ q. q.atoms) (lists_total atom_total)))

query_level : (q r : Query) → query_cmp q r ≡ Equal → q ≡ r
query_level q r e =
    let a = then_equal (nat_cmp (length q.atoms) (length r.atoms)) (ordering_then (slice_cmp arg_cmp q.head r.head) (slice_cmp atom_cmp q.atoms r.atoms)) e in
    let b = then_equal (slice_cmp arg_cmp q.head r.head) (slice_cmp atom_cmp q.atoms r.atoms) a.1 in
    let h = list_level arg_cmp arg_level q.head r.head b.0 in
    let k = list_level atom_cmp atom_level q.atoms r.atoms b.1 in
    λ i. record { head = h i; atoms = k i }

pub queries_ordered : QueriesAreOrdered
queries_ordered = record {
  total = query_total;
  level = λ q r. (query_level q r, λ e. subst (λ s. query_cmp q s ≡ Equal) e (tied_itself query_total q));
}

pub tuples_ordered : TuplesAreOrdered
tuples_ordered = record {
  terms = term_total;
  term_level = λ t u. (term_level t u, λ e. subst (λ s. term_cmp t s ≡ Equal) e (tied_itself term_total t));
  tuples = lists_total term_total;
  tuple_level = λ ts us. (list_level term_cmp term_level ts us, λ e. subst (λ s. tuple_cmp ts s ≡ Equal) e (tied_itself (lists_total term_total) ts));
}
