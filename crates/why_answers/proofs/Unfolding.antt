-- What a fold step was made from, over the facts of its result and what the birth gives.
use Rattle.std.proofs.Common.{ℕ, ◌≡◌, refl, sym, ◌∙◌, ap, subst, ◌+◌, Bool, true, false, List, [], ◌∷◌, map, inl, inr, Some, nat_eq, if◌then◌else◌, arith}
use Rattle.std.specs.Prelude.{slice_get}
use Rattle.std.specs.List.{remove}
use Rattle.std.specs.Option.{option_and_then}
use Rattle.std.proofs.lemmas.Bool.{eq-eqb}
use Rattle.vocabulary.specs.declared.ids.LinkId.{LinkId}
use Rattle.vocabulary.specs.declared.ids.VarId.{VarId}
use Rattle.vocabulary.specs.declared.ids.Dir.{Dir}
use Rattle.vocabulary.specs.declared.ids.Dir.TheVariants.{Fwd, Back}
use Rattle.vocabulary.specs.declared.term.Term.{Term, New}
use Rattle.vocabulary.specs.declared.term.Fact.{Fact}
use Rattle.vocabulary.specs.declared.term.Fact.TheVariants.{InClass, Linked}
use Rattle.vocabulary.specs.Lists.{In, here, there}
use Rattle.vocabulary.proofs.Lists.{In-map}
use Rattle.dllite_axioms.specs.declared.axioms.Axiom.{Axiom}
use Rattle.dllite_axioms.specs.Basics.{link_fact, match_at, turn}
use Rattle.dllite_axioms.specs.Chains.{Under}
use Rattle.dllite_axioms.specs.Chase.{Derived, given, step}
use Rattle.negative_closure.proofs.Places.{place_of_In}
use Rattle.queries.specs.declared.query.Arg.{Arg}
use Rattle.queries.specs.declared.query.Arg.TheVariants.{Blank, Var, Fixed}
use Rattle.queries.specs.declared.query.Atom.{Atom}
use Rattle.queries.specs.declared.query.Atom.TheVariants.{InClass as ClassAtom, Linked as LinkAtom}
use Rattle.queries.specs.declared.query.Query.{Query}
use Rattle.queries.specs.declared.unify.Change.{Change}
use Rattle.queries.specs.Changes.{changed, changed_atom}
use Rattle.queries.specs.Matches.{Terms, ArgIs, AtomIs, HeadIs, Matched}
use Rattle.queries.specs.Normal.{normal_form}
use Rattle.queries.specs.Occurrences.{occurs, atom_occurs}
use Rattle.certain_semantics.specs.Witnesses.{Held}
use Rattle.certain_semantics.proofs.Witnessing.{in_cases, matched_held}
use Rattle.perfect_rewriting.specs.Reach.{query_at}
use Rattle.perfect_rewriting.specs.Steps.{atom_of, link_atom}
use Rattle.perfect_rewriting.proofs.NormalForm.{normal_laws}
use Rattle.perfect_rewriting.proofs.Sound.{before_change, IsSolid, picks_cases, is_match, changed_is, changed_atom_is, meets_back, meets_solid}
use Rattle.fold_rewriting.specs.declared.steps.FoldStep.{FoldStep as Told}
use Rattle.fold_rewriting.specs.Folds.{MeetAll, met_none, met_one, changed_all, changed_atom_all, Parts, no_parts, class_part, link_part, other_part}
use Rattle.fold_rewriting.specs.Places.{IsBorn, arg_at, beside}
use Rattle.fold_rewriting.specs.Steps.{FoldAt, at_blank, at_var}
use Rattle.fold_rewriting.proofs.Telling.{pick_at}
use Rattle.why_answers.specs.Bearing.{IsPlace, arg_var, born, var_at}

-- with no axioms a derived fact is given
held_given : (facts : List Fact) (σ : Terms) (atoms : List Atom) → Held [] facts σ atoms → Matched facts σ atoms
held_given facts σ atoms h a m = let r = h a m in (r.0, is_given r.1, r.2)
  where
    is_given : {f : Fact} → Derived [] facts f → In f facts
    is_given (given i) = i
    is_given (step ax i e d) = elim i [ ]

-- a match of the normal form is one of the query, in the same facts
pub normal_back : (facts : List Fact) (q : Query) (σ : Terms) → q.head ≡ [] → Matched facts σ (normal_form q).atoms → (σ' : Terms) × Matched facts σ' q.atoms
normal_back facts q σ none m =
    let r = normal_laws.back [] facts q σ [] (matched_held {axioms = []} {facts = facts} 0 m) (subst (λ head. HeadIs σ head []) (sym none) tt) in
    (r.0, held_given facts r.0 q.atoms r.1)

-- the terms before changes
abbrev before_all : List Change → Terms → Terms
before_all [] σ = σ
before_all (c ∷ cs) σ = before_change c (before_all cs σ)

abbrev AllSolid : List Change → Type 0
AllSolid [] = Unit {0}
AllSolid (c ∷ cs) = IsSolid c × AllSolid cs

all_solid : {z w : Arg} {xs : List Arg} {cs : List Change} → MeetAll z xs cs w → AllSolid cs
all_solid met_none = tt
all_solid (met_one m r) = (meets_solid m, all_solid r)

changed_atom_all_is : (σ : Terms) (cs : List Change) → AllSolid cs → (a : Atom) (f : Fact) → AtomIs σ (changed_atom_all cs a) f → AtomIs (before_all cs σ) a f
changed_atom_all_is σ [] s a f h = h
changed_atom_all_is σ (c ∷ cs) s a f h = changed_atom_is (before_all cs σ) c s.0 a f (changed_atom_all_is σ cs s.1 (changed_atom c a) f h)

-- each of the arguments that became one stands for its term
all_back : (σ : Terms) (t : Term) {z w : Arg} {xs : List Arg} {cs : List Change} → MeetAll z xs cs w → ArgIs σ w t →
    ArgIs (before_all cs σ) z t × ((x : Arg) → In x xs → ArgIs (before_all cs σ) x t)
all_back σ t met_none h = (h, λ x m. elim m [ ])
all_back σ t (met_one {xs = ys} {c = c} {cs = cs} m r) h =
    let k = all_back σ t r h in
    let b = meets_back (before_all cs σ) t m k.0 in (
      b.0,
      λ x n. elim (in_cases n) [
        | inl e ↦ rw (← e) b.1
        | inr n' ↦ changed_is (before_all cs σ) c (meets_solid m) x t (k.1 (changed c x) (In-map (changed c) n'))
      ],
    )

-- terms that are given anew at one variable
abbrev put : VarId → Term → Terms → Terms
put v t σ = λ w. if nat_eq w.0 v.0 then t else σ w

put_same : (v : VarId) (t : Term) (σ : Terms) → put v t σ v ≡ t
put_same v t σ = rw (eq-eqb v.0 v.0 refl)

abbrev bit : Bool → ℕ
bit b = if b then 1 else 0

put_other : (v : VarId) (n : Term) (σ : Terms) (x : Arg) (t : Term) → occurs v x ≡ 0 → ArgIs σ x t → ArgIs (put v n σ) x t
put_other v n σ Blank t o h = tt
put_other v n σ (Fixed u) t o h = h
put_other v n σ (Var w) t o h =
    (elim (nat_eq w.0 v.0) as (λ b. bit b ≡ 0 → (if b then n else σ w) ≡ t) [
      | true ↦ (λ k. absurd (omega (arith, k)))
      | false ↦ (λ k. h)
    ]) o

none_of_two : (m n : ℕ) → m + n ≡ 0 → (m ≡ 0) × (n ≡ 0)
none_of_two m n h = (omega arith, omega arith)

put_other_atom : (v : VarId) (n : Term) (σ : Terms) (a : Atom) (f : Fact) → atom_occurs v a ≡ 0 → AtomIs σ a f → AtomIs (put v n σ) a f
put_other_atom v n σ (ClassAtom a x) (InClass b t) o h = (h.0, put_other v n σ x t o h.1)
put_other_atom v n σ (ClassAtom a x) (Linked q s t) o h = absurd h
put_other_atom v n σ (LinkAtom p x y) (InClass b t) o h = absurd h
put_other_atom v n σ (LinkAtom p x y) (Linked q s t) o h =
    let z = none_of_two (occurs v x) (occurs v y) o in
    (h.0, put_other v n σ x s z.0 h.1, put_other v n σ y t z.1 h.2)

link_stands : (σ : Terms) (p : LinkId) (e : Dir) (x y : Arg) (s t : Term) → ArgIs σ x s → ArgIs σ y t → AtomIs σ (link_atom p e x y) (link_fact p e s t)
link_stands σ p Fwd x y s t h k = (refl, h, k)
link_stands σ p Back x y s t h k = (refl, k, h)

-- a link atom, what stands at its ends and what is born of it
link_at : (q : LinkId) (e : Dir) (x y : Arg) → arg_at (link_atom q e x y) e ≡ Some y
link_at q Fwd x y = refl
link_at q Back x y = refl

link_born : (p : LinkId) (d : Dir) (t : Term) (q : LinkId) (e : Dir) (x y : Arg) → born p d t (link_atom q e x y) e ≡ link_fact q e t (New p d t)
link_born p d t q Fwd x y = refl
link_born p d t q Back x y = refl

module _ (axioms : List Axiom) (facts all : List Fact) (more : (f : Fact) → In f facts → In f all) (p : LinkId) (d : Dir) (t : Term) where
  -- what the birth gives at the ends where the argument stands is there
  abbrev IsThere : Arg → List Atom → Type 0
  IsThere y atoms = (a : Atom) (e : Dir) → In a atoms → arg_at a e ≡ Some y → IsBorn axioms p d a e → In (born p d t a e) all

  link_there : (q : LinkId) (e : Dir) (x y : Arg) (atoms : List Atom) → In (link_atom q e x y) atoms → IsThere y atoms → IsBorn axioms p d (link_atom q e x y) e → In (link_fact q e t (New p d t)) all
  link_there q e x y atoms i th b = subst (λ f. In f all) (link_born p d t q e x y) (th (link_atom q e x y) e i (link_at q e x y) b)

  parts_matched : (σ : Terms) (v : VarId) {atoms rest : List Atom} {parents : List Arg} → Parts axioms p d v atoms parents rest → ((x : Arg) → In x parents → ArgIs σ x t) → Matched facts σ rest → IsThere (Var v) atoms →
      Matched all (put v (New p d t) σ) atoms
  parts_matched σ v no_parts up m th a i = elim i [ ]
  parts_matched σ v (class_part {atoms = atoms} n e k r) up m th a i =
      elim (in_cases i) [
        | inl q ↦ rw (← q, e) (
          InClass n (New p d t),
          th (ClassAtom n (Var v)) Fwd (here e) refl k,
          (refl, put_same v (New p d t) σ),
        )
        | inr i' ↦ parts_matched σ v r up m (λ b g j. th b g (there j)) a i'
      ]
  parts_matched σ v (link_part {atoms = atoms} q' e' x u e o r) up m th a i =
      elim (in_cases i) [
        | inl q ↦ rw (← q, e) (
          link_fact q' e' t (New p d t),
          link_there q' e' x (Var v) (_ ∷ atoms) (here e) th (under_born q' e' x u),
          link_stands (put v (New p d t) σ) q' e' x (Var v) t (New p d t) (put_other v (New p d t) σ x t o (up x (here refl))) (put_same v (New p d t) σ),
        )
        | inr i' ↦ parts_matched σ v r (λ y j. up y (there j)) m (λ b g j. th b g (there j)) a i'
      ]
    where
      under_born : (q : LinkId) (e : Dir) (x : Arg) → Under axioms p (turn d e) q → IsBorn axioms p d (link_atom q e x (Var v)) e
      under_born q Fwd x u = u
      under_born q Back x u = u
  parts_matched σ v (other_part {a = b} o r) up m th a i =
      elim (in_cases i) [
        | inl q ↦ (let h = m b (here refl) in rw (← q) (h.0, more h.0 h.1, put_other_atom v (New p d t) σ b h.0 o h.2))
        | inr i' ↦ parts_matched σ v r up (λ y j. m y (there j)) (λ b g j. th b g (there j)) a i'
      ]

  blank_matched : (σ : Terms) (a : Atom) (e : Dir) → arg_at a e ≡ Some Blank → ArgIs σ (beside a e) t → AtomIs σ a (born p d t a e)
  blank_matched σ (ClassAtom n x) Fwd b h = let blank : x ≡ Blank = cc in rw blank (refl, tt)
  blank_matched σ (ClassAtom n x) Back b h = absurd cc
  blank_matched σ (LinkAtom q x y) Fwd b h = let blank : y ≡ Blank = cc in rw blank (refl, h, tt)
  blank_matched σ (LinkAtom q x y) Back b h = let blank : x ≡ Blank = cc in rw blank (refl, tt, h)

-- the variable at an end of an atom at a place
at_place : (q : Query) (i : ℕ) (e : Dir) (a : Atom) (v : VarId) → slice_get q.atoms i ≡ Some a → arg_at a e ≡ Some (Var v) → var_at q i e ≡ Some v
at_place q i e a v is at = ap (option_and_then (λ b. arg_var (arg_at b e))) is ∙ ap arg_var at

-- a match of what a fold step gives makes one of what it took, over the same facts and what the birth gives at the places of its variable or Blank
pub unfolds : (axioms : List Axiom) (q : Query) (s : Told) (r : Query) → q.head ≡ [] → FoldAt axioms q s r → (facts : List Fact) (σ : Terms) → Matched facts σ r.atoms →
    (g : Fact) × (t : Term) × In g facts × (match_at s.left g ≡ Some t) ×
    ((all : List Fact) → ((f : Fact) → In f facts → In f all) → ((i : ℕ) (e : Dir) (a : Atom) → IsPlace q s i e → slice_get q.atoms i ≡ Some a → IsBorn axioms s.link s.dir a e → In (born s.link s.dir t a e) all) →
    (σ' : Terms) × Matched all σ' q.atoms)
unfolds axioms q s _ none (at_var {parents = parents} {rest = rest} {cs = cs} {z = z} v by h first parts meet) facts σ m =
    let n = normal_back facts (query_at (map (changed_all cs) q.head) (atom_of s.left z ∷ map (changed_atom_all cs) rest)) σ (ap (map (changed_all cs)) none) m in
    let top = n.1 (atom_of s.left z) (here refl) in
    let i = is_match n.0 s.left z top.0 top.2 in
    let solid = all_solid meet in
    let σ₀ = before_all cs n.0 in
    let kept : Matched facts σ₀ rest = λ a j. (let k = n.1 (changed_atom_all cs a) (there (In-map (changed_atom_all cs) j)) in (k.0, k.1, changed_atom_all_is n.0 cs solid a k.0 k.2)) in (
      top.0,
      i.0,
      top.1,
      i.1,
      λ all more th. (
        put v (New s.link s.dir i.0) σ₀,
        parts_matched axioms facts all more s.link s.dir i.0 σ₀ v parts (all_back n.0 i.0 meet i.2).1 kept
            (λ a e j at b. (let k = place_of_In j in th k.0 e a (inr (v, at_place q s.atom s.end first.atom v first.is first.stands, at_place q k.0 e a v k.1 at)) k.1 b)),
      ),
    )
unfolds axioms q s _ none (at_blank a by is at b) facts σ m =
    let n = normal_back facts (query_at q.head (atom_of s.left (beside a s.end) ∷ remove q.atoms s.atom)) σ none m in
    let top = n.1 (atom_of s.left (beside a s.end)) (here refl) in
    let i = is_match n.0 s.left (beside a s.end) top.0 top.2 in (
      top.0,
      i.0,
      top.1,
      i.1,
      λ all more th. (
        n.0,
        λ c j. elim (picks_cases (pick_at q.atoms s.atom a is) j) [
          | inl e ↦ rw (← e) (born s.link s.dir i.0 a s.end, th s.atom s.end a (inl (refl, refl)) is b, blank_matched axioms facts all more s.link s.dir i.0 n.0 a s.end at i.2)
          | inr k ↦ (let h = n.1 c (there k) in (h.0, more h.0 h.1, h.2))
        ],
      ),
    )
