-- The shape of the folds: how long they are, that their heads stand, and what they answer.
use Rattle.std.proofs.Common.{ℕ, zero, suc, ◌≡◌, ◌≢◌, refl, sym, ◌∙◌, ap, subst, ◌≤◌, ◌+◌, Bool, true, false, List, [], ◌∷◌, map, length, ◌⊎◌, inl, inr, nat_eq, if◌then◌else◌, arith}
use Rattle.std.proofs.lemmas.Bool.{eq-eqb}
use Rattle.std.proofs.lemmas.List.{length-map}
use Rattle.vocabulary.specs.declared.ids.ClassId.{ClassId}
use Rattle.vocabulary.specs.declared.ids.LinkId.{LinkId}
use Rattle.vocabulary.specs.declared.ids.VarId.{VarId}
use Rattle.vocabulary.specs.declared.ids.Dir.{Dir}
use Rattle.vocabulary.specs.declared.ids.Dir.TheVariants.{Fwd, Back}
use Rattle.vocabulary.specs.declared.term.Term.{Term}
use Rattle.vocabulary.specs.Lists.{In, here, there, Picks, first, later, IsListOf}
use Rattle.vocabulary.proofs.Lists.{In-map}
use Rattle.dllite_axioms.specs.declared.axioms.Basic.{Basic}
use Rattle.dllite_axioms.specs.declared.axioms.Basic.TheVariants.{Class, Has}
use Rattle.dllite_axioms.specs.declared.axioms.Axiom.{Axiom}
use Rattle.queries.specs.declared.query.Arg.{Arg}
use Rattle.queries.specs.declared.query.Arg.TheVariants.{Blank, Var, Fixed}
use Rattle.queries.specs.declared.query.Atom.{Atom}
use Rattle.queries.specs.declared.query.Atom.TheVariants.{InClass, Linked}
use Rattle.queries.specs.declared.query.Query.{Query}
use Rattle.queries.specs.declared.unify.Change.{Change}
use Rattle.queries.specs.declared.unify.Change.TheVariants.{Keep, Put}
use Rattle.queries.specs.Changes.{changed, Meets, blank_left, blank_right, same_var, left_lower, right_lower, var_left, var_right, same_fixed}
use Rattle.queries.specs.Matches.{Terms, IsMatch}
use Rattle.queries.specs.Normal.{normal_form}
use Rattle.queries.specs.Occurrences.{occurs, atom_occurs, count, head_count, KnownArg, KnownAtom, KnownConstants, HeadStands}
use Rattle.queries.specs.Order.{query_cmp}
use Rattle.queries.proofs.Settling.{normal_length}
use Rattle.certain_semantics.specs.Certain.{IsCertain}
use Rattle.certain_semantics.proofs.Witnessing.{in_cases}
use Rattle.perfect_rewriting.specs.Reach.{query_at, start}
use Rattle.perfect_rewriting.specs.Rewriting.{KeepsShape}
use Rattle.perfect_rewriting.specs.Steps.{atom_of}
use Rattle.perfect_rewriting.proofs.Complete.{occurs_var, one_of_two, occurs_link, occurs_itself, picks_count}
use Rattle.perfect_rewriting.proofs.Heads.{reach_stands, match_known}
use Rattle.perfect_rewriting.proofs.Rewriting.{PutsKnown, changed_known}
use Rattle.perfect_rewriting.proofs.Sound.{from_map}
use Rattle.fold_rewriting.specs.Folds.{MeetAll, met_none, met_one, changed_all, changed_atom_all, Parts, no_parts, class_part, link_part, other_part, BlankPart, class_blank, link_blank, FoldStep, fold_var, fold_blank, Folds, unfolded, by_fold}
use Rattle.fold_rewriting.specs.Listing.{GiveCertain}
use Rattle.fold_rewriting.proofs.FoldComplete.{occurs_is}
use Rattle.fold_rewriting.proofs.Folding.{parts_known, all_known_met, fold_known, folds_exact}

-- lengths
record Fewer (v : VarId) (atoms rest : List Atom) : Type 0 where
  most : length rest ≤ length atoms
  less : 1 ≤ count v atoms → length rest + 1 ≤ length atoms

parts_fewer : {axioms : List Axiom} {p : LinkId} {d : Dir} {v : VarId} {atoms rest : List Atom} {ps : List Arg} → Parts axioms p d v atoms ps rest → Fewer v atoms rest
parts_fewer no_parts = record { most = omega arith; less = λ o. absurd (omega (arith, o)) }
parts_fewer (class_part n e c r) = let f = parts_fewer r in record { most = omega (arith, f.most); less = λ o. omega (arith, f.most) }
parts_fewer (link_part q e x u h o r) = let f = parts_fewer r in record { most = omega (arith, f.most); less = λ k. omega (arith, f.most) }
parts_fewer {v = v} {atoms = atoms} (other_part o r) = let f = parts_fewer r in record { most = omega (arith, f.most); less = λ k. (let l = f.less (omega (arith, k, o)) in omega (arith, l)) }

pub picks_length : {X : Type 0} {x : X} {xs rest : List X} → Picks x xs rest → length rest + 1 ≡ length xs
picks_length (first e) = omega arith
picks_length (later k) = omega (arith, picks_length k)

fold_length : {axioms : List Axiom} {head head' : List Arg} {atoms result : List Atom} → FoldStep axioms head atoms head' result → length result ≤ length atoms
fold_length (fold_var {rest = rest} {cs = cs} l p d v n o some parts meet) = let f = (parts_fewer parts).less some in omega (arith, length-map rest (changed_atom_all cs), f)
fold_length (fold_blank l p d a z n picks part) = omega (arith, picks_length picks)

fold_head : {axioms : List Axiom} {head head' : List Arg} {atoms result : List Atom} → FoldStep axioms head atoms head' result → length head' ≡ length head
fold_head (fold_var {head = head} {cs = cs} l p d v n o some parts meet) = length-map head (changed_all cs)
fold_head (fold_blank l p d a z n picks part) = refl

pub folds_atoms : {axioms : List Axiom} {q m : Query} → Folds axioms q m → length m.atoms ≤ length q.atoms
folds_atoms {q = q} unfolded = normal_length q
folds_atoms (by_fold {head = head} {result = result} r k) = omega (arith, normal_length (query_at head result), fold_length k, folds_atoms r)

pub folds_head : {axioms : List Axiom} {q m : Query} → Folds axioms q m → length m.head ≡ length q.head
folds_head unfolded = refl
folds_head (by_fold r k) = fold_head k ∙ folds_head r

-- what arguments become is what each of them is changed to
put_itself : (v : VarId) (y : Arg) → changed (Put v y) (Var v) ≡ y
put_itself v y = rw (eq-eqb v.0 v.0 refl)

either_way : (b : Bool) (x : Arg) → (if b then x else x) ≡ x
either_way true x = refl
either_way false x = refl

record Becomes (x y z : Arg) (c : Change) : Type 0 where
  left : x ≢ Blank → z ≡ changed c x
  right : y ≢ Blank → z ≡ changed c y

becomes : {x y z : Arg} {c : Change} → Meets x y c z → Becomes x y z c
becomes blank_left = record { left = λ n. absurd (n refl); right = λ n. refl }
becomes blank_right = record { left = λ n. refl; right = λ n. absurd (n refl) }
becomes (same_var e) = record { left = λ n. refl; right = λ n. ap Var e }
becomes (left_lower {v = v} {w = w} l) = record { left = λ n. sym (either_way (nat_eq v.0 w.0) (Var v)); right = λ n. sym (put_itself w (Var v)) }
becomes (right_lower {v = v} {w = w} l) = record { left = λ n. sym (put_itself v (Var w)); right = λ n. sym (either_way (nat_eq w.0 v.0) (Var w)) }
becomes (var_left {v = v} {t = t}) = record { left = λ n. sym (put_itself v (Fixed t)); right = λ n. refl }
becomes (var_right {v = v} {t = t}) = record { left = λ n. refl; right = λ n. sym (put_itself v (Fixed t)) }
becomes (same_fixed e) = record { left = λ n. refl; right = λ n. ap Fixed e }

var_no_blank : (v : VarId) → Var v ≡ Blank → ⊥
var_no_blank v e = cc

fixed_no_blank : (t : Term) → Fixed t ≡ Blank → ⊥
fixed_no_blank t e = cc

fixed_no_var : (t : Term) (v : VarId) → Fixed t ≡ Var v → ⊥
fixed_no_var t v e = cc

-- no change makes a Blank
abbrev PutsSome : Change → Type 0
PutsSome Keep = Unit {0}
PutsSome (Put v y) = y ≢ Blank

puts_some : {x y z : Arg} {c : Change} → Meets x y c z → PutsSome c
puts_some blank_left = tt
puts_some blank_right = tt
puts_some (same_var e) = tt
puts_some (left_lower {v = v} l) = var_no_blank v
puts_some (right_lower {w = w} l) = var_no_blank w
puts_some (var_left {t = t}) = fixed_no_blank t
puts_some (var_right {t = t}) = fixed_no_blank t
puts_some (same_fixed e) = tt

changed_some : (c : Change) → PutsSome c → (x : Arg) → x ≢ Blank → changed c x ≢ Blank
changed_some Keep s x n = n
changed_some (Put v y) s Blank n = absurd (n refl)
changed_some (Put v y) s (Fixed t) n = fixed_no_blank t
changed_some (Put v y) s (Var w) n = elim (nat_eq w.0 v.0) as (λ b. (if b then y else Var w) ≢ Blank) [ true ↦ s | false ↦ var_no_blank w ]

all_some : {z w : Arg} {xs : List Arg} {cs : List Change} → MeetAll z xs cs w → (x : Arg) → x ≢ Blank → changed_all cs x ≢ Blank
all_some met_none x n = n
all_some (met_one {c = c} m r) x n = all_some r (changed c x) (changed_some c (puts_some m) x n)

all_become : {z w : Arg} {xs : List Arg} {cs : List Change} → MeetAll z xs cs w → (z ≢ Blank → w ≡ changed_all cs z) × ((x : Arg) → In x xs → x ≢ Blank → w ≡ changed_all cs x)
all_become met_none = ((λ n. refl), (λ x m n. elim m [ ]))
all_become {z = z} {w = w} (met_one {x = y} {z' = u} {xs = ys} {c = c} {cs = cs} m r) =
    let s = all_become r in
    let b = becomes m in
    let near : (x : Arg) → x ≢ Blank → u ≡ changed c x → w ≡ changed_all cs (changed c x) = λ x n e. s.0 (λ k. changed_some c (puts_some m) x n (sym e ∙ k)) ∙ ap (changed_all cs) e in (
      (λ n. near z n (b.left n)),
      (λ x i n. elim (in_cases i) [
        | inl e ↦ near x n (subst (λ v. u ≡ changed c v) e (b.right (λ k. n (sym e ∙ k))))
        | inr j ↦ s.1 (changed c x) (In-map (changed c) j) (changed_some c (puts_some m) x n)
      ]),
    )

-- what a variable becomes, in atoms too
fixed_stays : (cs : List Change) (t : Term) → changed_all cs (Fixed t) ≡ Fixed t
fixed_stays [] t = refl
fixed_stays (Keep ∷ cs) t = fixed_stays cs t
fixed_stays (Put v y ∷ cs) t = fixed_stays cs t

class_changed : (cs : List Change) (n : ClassId) (x : Arg) → changed_atom_all cs (InClass n x) ≡ InClass n (changed_all cs x)
class_changed [] n x = refl
class_changed (c ∷ cs) n x = class_changed cs n (changed c x)

link_changed : (cs : List Change) (p : LinkId) (x y : Arg) → changed_atom_all cs (Linked p x y) ≡ Linked p (changed_all cs x) (changed_all cs y)
link_changed [] p x y = refl
link_changed (c ∷ cs) p x y = link_changed cs p (changed c x) (changed c y)

is_there : (w : VarId) (x : Arg) → x ≡ Var w → 1 ≤ occurs w x
is_there w x e = omega (arith, ap (occurs w) e, occurs_itself w)

moved : (cs : List Change) (u w : VarId) → changed_all cs (Var u) ≡ Var w → (x : Arg) → 1 ≤ occurs u x → 1 ≤ occurs w (changed_all cs x)
moved cs u w h x o = is_there w (changed_all cs x) (ap (changed_all cs) (occurs_is u x o) ∙ h)

moved_atom : (cs : List Change) (u w : VarId) → changed_all cs (Var u) ≡ Var w → (a : Atom) → 1 ≤ atom_occurs u a → 1 ≤ atom_occurs w (changed_atom_all cs a)
moved_atom cs u w h (InClass n x) o = omega (arith, moved cs u w h x o, ap (atom_occurs w) (class_changed cs n x))
moved_atom cs u w h (Linked p x y) o =
    let e = ap (atom_occurs w) (link_changed cs p x y) in
    elim (one_of_two (occurs u x) (occurs u y) o) [ inl k ↦ omega (arith, moved cs u w h x k, e) | inr k ↦ omega (arith, moved cs u w h y k, e) ]

moved_count : (cs : List Change) (u w : VarId) → changed_all cs (Var u) ≡ Var w → (atoms : List Atom) → 1 ≤ count u atoms → 1 ≤ count w (map (changed_atom_all cs) atoms)
moved_count cs u w h [] o = absurd (omega (arith, o))
moved_count cs u w h (a ∷ atoms) o =
    elim (one_of_two (atom_occurs u a) (count u atoms) o) [ inl k ↦ omega (arith, moved_atom cs u w h a k) | inr k ↦ omega (arith, moved_count cs u w h atoms k) ]

-- another variable of the atoms is beside the variable or in the others
parent_or_other : {axioms : List Axiom} {p : LinkId} {d : Dir} {v : VarId} {atoms rest : List Atom} {ps : List Arg} (u : VarId) → occurs u (Var v) ≡ 0 → Parts axioms p d v atoms ps rest → 1 ≤ count u atoms → In (Var u) ps ⊎ (1 ≤ count u rest)
parent_or_other u h no_parts o = absurd (omega (arith, o))
parent_or_other u h (class_part n e c r) o = parent_or_other u h r (omega (arith, o, h, ap (atom_occurs u) e))
parent_or_other {v = v} u h (link_part {a = a} {atoms = atoms} q e x un is none r) o =
    let k : atom_occurs u a ≡ occurs u x = omega (arith, h, ap (atom_occurs u) is, occurs_link u q e x (Var v)) in
    elim (one_of_two (occurs u x) (count u atoms) (omega (arith, o, k))) [
      | inl l ↦ inl (here (occurs_is u x l))
      | inr l ↦ elim (parent_or_other u h r l) [ inl m ↦ inl (there m) | inr c ↦ inr c ]
    ]
parent_or_other u h (other_part {a = a} {atoms = atoms} none r) o =
    elim (one_of_two (atom_occurs u a) (count u atoms) o) [
      | inl l ↦ inr (omega (arith, l))
      | inr l ↦ elim (parent_or_other u h r l) [ inl m ↦ inl m | inr c ↦ inr (omega (arith, c)) ]
    ]

basic_occurs : (w : VarId) (l : Basic) (x : Arg) → atom_occurs w (atom_of l x) ≡ occurs w x
basic_occurs w (Class c) x = refl
basic_occurs w (Has p Fwd) x = omega arith
basic_occurs w (Has p Back) x = omega arith

in_front : (w : VarId) (l : Basic) (z : Arg) (rest : List Atom) → z ≡ Var w → 1 ≤ count w (atom_of l z ∷ rest)
in_front w l z rest e = omega (arith, basic_occurs w l z, is_there w z e)

in_others : (w : VarId) (a : Atom) (rest : List Atom) → 1 ≤ count w rest → 1 ≤ count w (a ∷ rest)
in_others w a rest o = omega (arith, o)

-- a variable of the head is not the one that is folded
apart : (u v : VarId) (head : List Arg) → In (Var u) head → head_count v head ≡ 0 → occurs u (Var v) ≡ 0
apart u v [] m o = elim m [ ]
apart u v (x ∷ head) (here e) o = none (occurs u (Var v)) refl
  where
    none : (n : ℕ) → occurs u (Var v) ≡ n → occurs u (Var v) ≡ 0
    none zero k = k
    none (suc n) k = absurd (omega (arith, o, is_there v x (e ∙ ap Var (sym (occurs_var u v (omega (arith, k)))))))
apart u v (x ∷ head) (there m) o = apart u v head m (omega (arith, o))

abbrev StandsIn : List Atom → Arg → Type 0
StandsIn atoms x = KnownArg x × (x ≢ Blank) × ((v : VarId) → x ≡ Var v → 1 ≤ count v atoms)

all_known : (cs : List Change) (x : Arg) → ((c : Change) → In c cs → PutsKnown c) → KnownArg x → KnownArg (changed_all cs x)
all_known [] x ps k = k
all_known (c ∷ cs) x ps k = all_known cs (changed c x) (λ e m. ps e (there m)) (changed_known c x (ps c (here refl)) k)

-- the head of what a fold step gives stands
var_arg : {axioms : List Axiom} {p : LinkId} {d : Dir} {v : VarId} {head ps : List Arg} {atoms rest : List Atom} {cs : List Change} {z : Arg} (l : Basic) → head_count v head ≡ 0 → Parts axioms p d v atoms ps rest → MeetAll Blank ps cs z →
    (x : Arg) → In x head → StandsIn atoms x → (w : VarId) → changed_all cs x ≡ Var w → 1 ≤ count w (atom_of l z ∷ map (changed_atom_all cs) rest)
var_arg l o parts meet Blank i h w e = absurd (h.1 refl)
var_arg {cs = cs} l o parts meet (Fixed t) i h w e = absurd (fixed_no_var t w (sym (fixed_stays cs t) ∙ e))
var_arg {v = v} {head = head} {rest = rest} {cs = cs} {z = z} l o parts meet (Var u) i h w e =
    elim (parent_or_other u (apart u v head i o) parts (h.2 u refl)) [
      | inl m ↦ in_front w l z (map (changed_atom_all cs) rest) ((all_become meet).1 (Var u) m (var_no_blank u) ∙ e)
      | inr c ↦ in_others w (atom_of l z) (map (changed_atom_all cs) rest) (moved_count cs u w e rest c)
    ]

blank_arg : {axioms : List Axiom} {p : LinkId} {d : Dir} {a : Atom} {z : Arg} → BlankPart axioms p d a z → (u : VarId) → 1 ≤ atom_occurs u a → z ≡ Var u
blank_arg (class_blank n c) u o = absurd (omega (arith, o))
blank_arg (link_blank q e x k) u o = occurs_is u x (omega (arith, o, occurs_link u q e x Blank))

pub fold_stands : {axioms : List Axiom} {head head' : List Arg} {atoms result : List Atom} → FoldStep axioms head atoms head' result → ((a : Atom) → In a atoms → KnownAtom a) → ((x : Arg) → In x head → StandsIn atoms x) →
    (x : Arg) → In x head' → StandsIn result x
fold_stands {head = head} {atoms = atoms} (fold_var {parents = ps} {rest = rest} {cs = cs} {z = z} l p d v n o some parts meet) known stands y m =
    let x = from_map (changed_all cs) head m in
    let k = all_known_met meet tt (parts_known parts known).0 in
    let h = stands x.0 x.1 in
    (subst KnownArg x.2 (all_known cs x.0 k.0 h.0), (λ b. all_some meet x.0 h.1 (x.2 ∙ b)), (λ w e. var_arg l o parts meet x.0 x.1 h w (x.2 ∙ e)))
fold_stands (fold_blank {rest = rest} l p d a z n picks part) known stands x m =
    let h = stands x m in (
      h.0,
      h.1,
      (λ u e. elim (one_of_two (atom_occurs u a) (count u rest) (omega (arith, h.2 u e, picks_count u picks))) [
        | inl o ↦ in_front u l z rest (blank_arg part u o)
        | inr o ↦ in_others u (atom_of l z) rest o
      ]),
    )

abbrev Stands : Query → Type 0
Stands q = KnownConstants q × HeadStands q

normal_stands : (q : Query) → Stands q → Stands (normal_form q)
normal_stands q s = reach_stands {axioms = []} s start

pub folds_stand : {axioms : List Axiom} {q m : Query} → Stands q → Folds axioms q m → Stands m
folds_stand {q = q} s unfolded = normal_stands q s
folds_stand s (by_fold {m = m} {head = head} {result = result} r k) =
    let t = folds_stand s r in
    normal_stands (query_at head result) (fold_known k t.0, fold_stands k t.0 t.1)

pub folds_shape : (axioms : List Axiom) (q m : Query) → Folds axioms q m → KeepsShape q m
folds_shape axioms q m f = record { atoms = folds_atoms f; head = folds_head f; stands = λ k h. (let s = folds_stand (k, h) f in (s.0, s.1)) }

-- a list of the folds answers what the folds do
pub list_certain : (axioms : List Axiom) (q : Query) (list : List Query) → IsListOf query_cmp (Folds axioms q) list → GiveCertain axioms q list
list_certain axioms q list is k h facts known holds tuple = (to, from)
  where
    to : IsCertain axioms facts q tuple → (m : Query) × (σ : Terms) × In m list × IsMatch facts m tuple σ
    to c = let r = (folds_exact axioms facts known holds q k tuple c.known).0 c in (r.0, r.1, is.all r.0 r.2, r.3)

    from : ((m : Query) × (σ : Terms) × In m list × IsMatch facts m tuple σ) → IsCertain axioms facts q tuple
    from (m, σ, i, match) =
        let f = is.each m i in
        let s = folds_stand (k, h) f in
        let t = match_known facts known σ m.atoms match.atoms m.head tuple s.1 match.head in
        (folds_exact axioms facts known holds q k tuple t).1 (m, σ, f, match)
