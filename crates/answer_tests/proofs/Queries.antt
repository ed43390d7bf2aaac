-- Queries of one or two atoms whose head is a variable of the first.
use Rattle.std.proofs.Common.{◌≡◌, ◌≢◌, ◌≤◌, subst, ◌∙◌, sym, ap, List, [], ◌∷◌, length, Option, Some, None, arith}
use Rattle.std.specs.Prelude.{IfSome, option_to_list}
use Rattle.vocabulary.specs.declared.ids.VarId.{VarId}
use Rattle.vocabulary.specs.Lists.{In, here, there}
use Rattle.queries.specs.declared.query.Arg.{Arg}
use Rattle.queries.specs.declared.query.Arg.TheVariants.{Blank, Var}
use Rattle.queries.specs.declared.query.Atom.{Atom}
use Rattle.queries.specs.Occurrences.{KnownArg, KnownAtom, atom_occurs, count}

var_is : (v w : VarId) → Var v ≡ Var w → v ≡ w
var_is v w e = cc

not_blank : (v : VarId) (x : Arg) → Var v ≡ x → x ≡ Blank → ⊥
not_blank v x e f = let g : Var v ≡ Blank = e ∙ f in cc

head_stands : (v : VarId) (atoms : List Atom) → 1 ≤ count v atoms → (x : Arg) → In x (Var v ∷ []) → KnownArg x × (x ≢ Blank) × ((w : VarId) → x ≡ Var w → 1 ≤ count w atoms)
head_stands v atoms l x (here e) = (subst KnownArg e tt, (λ f. not_blank v x e f), (λ w f. subst (λ z. 1 ≤ count z atoms) (var_is v w (e ∙ f)) l))
head_stands v atoms l x (there i) = elim i [ ]

first_stands : (v : VarId) (first : Atom) (rest : List Atom) → 1 ≤ atom_occurs v first → 1 ≤ count v (first ∷ rest)
first_stands v first rest l = omega (arith, l)

pub query_stands : (v : VarId) (first : Atom) (rest atoms : List Atom) (head : List Arg) → 1 ≤ atom_occurs v first → atoms ≡ first ∷ rest → head ≡ Var v ∷ [] → (x : Arg) → In x head → KnownArg x × (x ≢ Blank) × ((w : VarId) → x ≡ Var w → 1 ≤ count w atoms)
query_stands v first rest atoms head l e h x i = head_stands v atoms (subst (λ z. 1 ≤ count v z) (sym e) (first_stands v first rest l)) x (subst (In x) h i)

known_first : (first : Atom) (second : Option Atom) → KnownAtom first → IfSome second KnownAtom → (a : Atom) → In a (first ∷ option_to_list second) → KnownAtom a
known_first first second k l a (here e) = subst KnownAtom e k
known_first first None k l a (there i) = elim i [ ]
known_first first (Some b) k l a (there (here e)) = subst KnownAtom e l
known_first first (Some b) k l a (there (there i)) = elim i [ ]

pub query_known : (first : Atom) (second : Option Atom) (atoms : List Atom) → KnownAtom first → IfSome second KnownAtom → atoms ≡ first ∷ option_to_list second → (a : Atom) → In a atoms → KnownAtom a
query_known first second atoms k l e a i = known_first first second k l a (subst (In a) e i)

two_at_most : (first : Atom) (second : Option Atom) → length (first ∷ option_to_list second) ≤ 2
two_at_most first None = omega arith
two_at_most first (Some b) = omega arith

pub query_few : (first : Atom) (second : Option Atom) (atoms : List Atom) → atoms ≡ first ∷ option_to_list second → length atoms ≤ 2
query_few first second atoms e = omega (arith, ap length e, two_at_most first second)
