-- The query: one attribute further, and that its head stands.
use Rattle.std.proofs.Common.{◌≡◌, refl, sym, ◌∙◌, ap, subst, ℕ, suc, ◌+◌, ◌<◌, ◌≤◌, List, [], ◌∷◌, ◌++◌, length, take, get_or, eq-eqb, inl, inr, if◌then◌else◌, arith}
use Rattle.std.proofs.lemmas.List.{length-take-le, take_more}
use Rattle.vocabulary.specs.declared.ids.ClassId.{ClassId}
use Rattle.vocabulary.specs.declared.ids.LinkId.{LinkId}
use Rattle.vocabulary.specs.declared.ids.VarId.{VarId}
use Rattle.vocabulary.specs.Lists.{In, here, there}
use Rattle.vocabulary.proofs.Lists.{In-append_cases}
use Rattle.queries.specs.declared.query.Arg.{Arg}
use Rattle.queries.specs.declared.query.Arg.TheVariants.{Blank, Var}
use Rattle.queries.specs.declared.query.Atom.{Atom}
use Rattle.queries.specs.declared.query.Atom.TheVariants.{InClass, Linked}
use Rattle.queries.specs.Occurrences.{HeadStands, KnownArg, count, occurs}
use Rattle.identification_check.specs.Asking.{members_query, value_atoms, value_vars, var}

vars_more : (us : List LinkId) (u : LinkId) (k : ℕ) → value_vars k (us ++ u ∷ []) ≡ value_vars k us ++ var (k + length us) ∷ []
vars_more [] u k = let same : k ≡ k + 0 = omega arith in ap (λ n. var n ∷ []) same
vars_more (w ∷ us) u k =
    let same : k + 1 + length us ≡ k + length (w ∷ us) = omega arith in
    ap (λ more. var k ∷ more) (vars_more us u (k + 1) ∙ ap (λ n. value_vars (k + 1) us ++ var n ∷ []) same)

atoms_more : (us : List LinkId) (u : LinkId) (k : ℕ) → value_atoms k (us ++ u ∷ []) ≡ value_atoms k us ++ Linked u (var 0) (var (k + length us)) ∷ []
atoms_more [] u k = let same : k ≡ k + 0 = omega arith in ap (λ n. Linked u (var 0) (var n) ∷ []) same
atoms_more (w ∷ us) u k =
    let same : k + 1 + length us ≡ k + length (w ∷ us) = omega arith in
    ap (λ more. Linked w (var 0) (var k) ∷ more) (atoms_more us u (k + 1) ∙ ap (λ n. value_atoms (k + 1) us ++ Linked u (var 0) (var n) ∷ []) same)

pub var_pushed : (us : List LinkId) (at : ℕ) (d : LinkId) (old new : List Arg) → at < length us → old ≡ value_vars 1 (take at us) → new ≡ old ++ var (at + 1) ∷ [] → new ≡ value_vars 1 (take (at + 1) us)
var_pushed us at d old new low so_far pushed =
    let long = length-take-le at us (omega (arith, low)) in
    let place : at + 1 ≡ 1 + length (take at us) = omega (arith, long) in
    pushed ∙ ap (λ xs. xs ++ var (at + 1) ∷ []) so_far ∙ ap (λ n. value_vars 1 (take at us) ++ var n ∷ []) place
    ∙ sym (vars_more (take at us) (get_or us at d) 1) ∙ ap (value_vars 1) (sym (take_more us at d low))

pub atom_pushed : (us : List LinkId) (a : ClassId) (at : ℕ) (d : LinkId) (old new : List Atom) → at < length us → old ≡ InClass a (var 0) ∷ value_atoms 1 (take at us) → new ≡ old ++ Linked (get_or us at d) (var 0) (var (at + 1)) ∷ [] →
    new ≡ InClass a (var 0) ∷ value_atoms 1 (take (at + 1) us)
atom_pushed us a at d old new low so_far pushed =
    let long = length-take-le at us (omega (arith, low)) in
    let place : at + 1 ≡ 1 + length (take at us) = omega (arith, long) in
    pushed ∙ ap (λ xs. xs ++ Linked (get_or us at d) (var 0) (var (at + 1)) ∷ []) so_far
    ∙ ap (λ n. InClass a (var 0) ∷ (value_atoms 1 (take at us) ++ Linked (get_or us at d) (var 0) (var n) ∷ [])) place
    ∙ ap (λ xs. InClass a (var 0) ∷ xs) (sym (atoms_more (take at us) (get_or us at d) 1) ∙ ap (value_atoms 1) (sym (take_more us at d low)))

-- each variable of the head stands in an atom
abbrev v : ℕ → VarId
v n = record { 0 = n }

itself : (n : ℕ) → occurs (v n) (var n) ≡ 1
itself n = ap (λ b. if b then 1 else 0) (eq-eqb n n refl)

abbrev StandsAs : Arg → List Atom → Type 0
StandsAs x atoms = (n : ℕ) × (x ≡ var n) × (1 ≤ count (v n) atoms)

vars_stand : (us : List LinkId) (k : ℕ) (x : Arg) → In x (value_vars k us) → StandsAs x (value_atoms k us)
vars_stand [] k x i = elim i [ ]
vars_stand (u ∷ us) k x (here e) = let once = itself k in (k, sym e, omega (arith, once))
vars_stand (u ∷ us) k x (there i) = let w = vars_stand us (k + 1) x i in let more = w.2 in (w.0, w.1, omega (arith, more))

abbrev Stands : List Atom → Arg → Type 0
Stands atoms x = KnownArg x × (x ≡ Blank → ⊥) × ((w : VarId) → x ≡ Var w → 1 ≤ count w atoms)

stands_by : (atoms : List Atom) (x : Arg) → StandsAs x atoms → Stands atoms x
stands_by atoms x h = (
  subst KnownArg (sym h.1) tt,
  (λ e. (let clash : var h.0 ≡ Blank = sym h.1 ∙ e in cc)),
  (λ w e. (let same : var h.0 ≡ Var w = sym h.1 ∙ e in let number : v h.0 ≡ w = cc in subst (λ z. 1 ≤ count z atoms) number h.2)),
)

pub head_stands : (a : ClassId) (us : List LinkId) → HeadStands (members_query a us)
head_stands a us x i = elim (In-append_cases (value_vars 1 us) (var 0 ∷ []) i) [ inl j ↦ one_of j | inr j ↦ member j ]
  where
    one_of : In x (value_vars 1 us) → Stands (InClass a (var 0) ∷ value_atoms 1 us) x
    one_of j = let w = vars_stand us 1 x j in let more = w.2 in stands_by (InClass a (var 0) ∷ value_atoms 1 us) x (w.0, w.1, omega (arith, more))

    member : In x (var 0 ∷ []) → Stands (InClass a (var 0) ∷ value_atoms 1 us) x
    member (here e) = let once = itself 0 in stands_by (InClass a (var 0) ∷ value_atoms 1 us) x (0, sym e, omega (arith, once))
    member (there j) = elim j [ ]

pub few_atoms : (a : ClassId) (us : List LinkId) → length us ≤ 3 → length (members_query a us).atoms ≤ 16
few_atoms a us few = let long = as_many us 1 in omega (arith, long)
  where
    as_many : (us : List LinkId) (k : ℕ) → length (value_atoms k us) ≡ length us
    as_many [] k = refl
    as_many (u ∷ us) k = ap suc (as_many us (k + 1))
