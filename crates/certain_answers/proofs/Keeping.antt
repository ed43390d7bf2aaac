-- Queries without what they ask for anyway have the same images.
use Rattle.std.proofs.Common.{ℕ, ◌≡◌, refl, sym, ◌∙◌, ap, subst, ◌+◌, ◌<◌, ◌≤◌, List, [], ◌∷◌, ◌++◌, length, length-append, get_or, take, Some, ◌⊎◌, inl, inr, ◌↔◌, arith}
use Rattle.std.proofs.lemmas.List.{take_all, take_more}
use Rattle.vocabulary.specs.declared.ids.ClassId.{ClassId}
use Rattle.vocabulary.specs.declared.ids.LinkId.{LinkId}
use Rattle.vocabulary.specs.declared.ids.VarId.{VarId}
use Rattle.vocabulary.specs.declared.ids.Dir.TheVariants.{Fwd, Back}
use Rattle.vocabulary.specs.declared.term.Term.{Term}
use Rattle.vocabulary.specs.declared.term.Fact.{Fact}
use Rattle.vocabulary.specs.declared.term.Fact.TheVariants.{InClass as ClassFact, Linked as LinkFact}
use Rattle.vocabulary.specs.Lists.{In, here, there, Pairwise}
use Rattle.vocabulary.specs.Terms.{IsKnown}
use Rattle.vocabulary.proofs.Lists.{In-append_left, In-append_right, In-append_cases}
use Rattle.dllite_axioms.specs.declared.axioms.Axiom.{Axiom}
use Rattle.dllite_axioms.specs.declared.axioms.Basic.{Basic}
use Rattle.dllite_axioms.specs.declared.axioms.Basic.TheVariants.{Class, Has}
use Rattle.dllite_axioms.specs.Basics.{match_at}
use Rattle.dllite_axioms.specs.Chains.{Chain}
use Rattle.dllite_axioms.specs.Chase.{AreKnown}
use Rattle.dllite_axioms.proofs.Firing.{match_fwd, match_back}
use Rattle.negative_closure.specs.Laws.{KnownComeByChains}
use Rattle.negative_closure.proofs.Places.{In-at}
use Rattle.queries.specs.declared.query.Arg.{Arg}
use Rattle.queries.specs.declared.query.Atom.{Atom}
use Rattle.queries.specs.declared.query.Atom.TheVariants.{InClass, Linked}
use Rattle.queries.specs.declared.query.Query.{Query}
use Rattle.queries.specs.Matches.{Terms, ArgIs, AtomIs, IsMatch}
use Rattle.queries.specs.Occurrences.{HeadStands, atom_occurs, count, occurs}
use Rattle.fold_rewriting.specs.Folds.{HoldsKnown}
use Rattle.query_subsumption.specs.Kept.{HasImage}
use Rattle.certain_answers.specs.Lean.{AllLean, AreLean, Asks, at_first, at_second, IsAsked, IsLean, Treats}

-- one item further
next : {X : Type 0} (xs : List X) (i : ℕ) (x : X) → i < length xs → x ≡ get_or xs i x → take (i + 1) xs ≡ take i xs ++ x ∷ []
next xs i x l is = take_more xs i x l ∙ ap (λ z. take i xs ++ z ∷ []) (sym is)

only : {X : Type 0} {x y : X} → In y (x ∷ []) → x ≡ y
only (here e) = e
only (there i) = elim i [ ]

pub listed : {X : Type 0} (xs : List X) (i : ℕ) (x : X) → i < length xs → x ≡ get_or xs i x → In x xs
listed xs i x l is = subst (λ z. In z xs) (sym is) (In-at xs i x l)

pub found : {X : Type 0} (xs : List X) (i : ℕ) (d x : X) → i < length xs → get_or xs i d ≡ x → In x xs
found xs i d x l e = subst (λ z. In z xs) e (In-at xs i d l)

-- atoms that are kept or asked for
pub none_lean : (axioms : List Axiom) (all lean : List Atom) → lean ≡ [] → AreLean axioms all [] lean
none_lean axioms all lean e = rw e (record { from = λ a i. i; rest = λ a i. elim i [ ]; few = omega arith })

pub all_kept : (axioms : List Axiom) (all given lean : List Atom) (i : ℕ) → length given ≤ i → AreLean axioms all (take i given) lean → AreLean axioms all given lean
all_kept axioms all given lean i l are = subst (λ xs. AreLean axioms all xs lean) (take_all i given l) are

-- one atom further
module _ (axioms : List Axiom) (all given old new : List Atom) (i : ℕ) (a : Atom) (low : i < length given) (is : a ≡ get_or given i a) (are : AreLean axioms all (take i given) old) where
  front : take (i + 1) given ≡ take i given ++ a ∷ []
  front = next given i a low is

  longer : length (take i given ++ a ∷ []) ≡ length (take i given) + 1
  longer = length-append (take i given) (a ∷ [])

  keep : new ≡ old ++ a ∷ [] → AreLean axioms all (take i given ++ a ∷ []) new
  keep e = rw e (record {
    from = λ b k. elim (In-append_cases old (a ∷ []) k) [ inl m ↦ In-append_left (a ∷ []) (are.from b m) | inr m ↦ In-append_right (take i given) m ];
    rest = λ b k. elim (In-append_cases (take i given) (a ∷ []) k) [
      | inl m ↦ elim (are.rest b m) [ inl h ↦ inl (In-append_left (a ∷ []) h) | inr h ↦ inr h ]
      | inr m ↦ inl (In-append_right old m)
    ];
    few = omega (arith, are.few, longer, length-append old (a ∷ []));
  })

  skip : new ≡ old → IsAsked axioms all a → AreLean axioms all (take i given ++ a ∷ []) new
  skip e asked = rw e (record {
    from = λ b k. In-append_left (a ∷ []) (are.from b k);
    rest = λ b k. elim (In-append_cases (take i given) (a ∷ []) k) [ inl m ↦ are.rest b m | inr m ↦ inr (subst (IsAsked axioms all) (only m) asked) ];
    few = omega (arith, are.few, longer);
  })

  pub next_lean : Treats axioms all a old new → AreLean axioms all (take (i + 1) given) new
  next_lean t = subst (λ xs. AreLean axioms all xs new) (sym front) (elim t [ inl e ↦ keep e | inr h ↦ skip h.0 h.1 ])

-- queries, one further
pub none_all : (axioms : List Axiom) (leans : List Query) → leans ≡ [] → AllLean axioms [] leans
none_all axioms leans e = rw e (record { each = λ m i. elim i [ ]; all = λ q i. elim i [ ] })

pub next_all : (axioms : List Axiom) (queries old new : List Query) (i : ℕ) (q m : Query) → i < length queries → q ≡ get_or queries i q → AllLean axioms (take i queries) old → IsLean axioms q m → new ≡ old ++ m ∷ [] → AllLean axioms (take (i + 1) queries) new
next_all axioms queries old new i q m low is are lean e = subst (λ xs. AllLean axioms xs new) (sym (next queries i q low is)) (rw e (record {
  each = λ r k. elim (In-append_cases old (m ∷ []) k) [
    | inl j ↦ (let h = are.each r j in (h.0, In-append_left (q ∷ []) h.1, h.2))
    | inr j ↦ (q, In-append_right (take i queries) (here refl), subst (IsLean axioms q) (only j) lean)
  ];
  all = λ r k. elim (In-append_cases (take i queries) (q ∷ []) k) [
    | inl j ↦ (let h = are.all r j in (h.0, In-append_left (m ∷ []) h.1, h.2))
    | inr j ↦ (m, In-append_right old (here refl), subst (λ z. IsLean axioms z m) (only j) lean)
  ];
}))

pub all_queries : (axioms : List Axiom) (queries leans : List Query) (i : ℕ) → length queries ≤ i → AllLean axioms (take i queries) leans → AllLean axioms queries leans
all_queries axioms queries leans i l are = subst (λ xs. AllLean axioms xs leans) (take_all i queries l) are

-- what asks is a link atom, which is never asked for
asks_linked : {axioms : List Axiom} {b : Atom} {c : ClassId} {x : Arg} → Asks axioms b c x → (d : ClassId) (z : Arg) → b ≡ InClass d z → ⊥
asks_linked (at_first chain) d z e = cc
asks_linked (at_second chain) d z e = cc

still_there : {axioms : List Axiom} {all given lean : List Atom} → AreLean axioms all given lean → {b : Atom} {c : ClassId} {x : Arg} → In b given → Asks axioms b c x → In b lean
still_there are {b} i asks = elim (are.rest b i) [ inl k ↦ k | inr h ↦ absurd (asks_linked asks h.0 h.1 h.2) ]

module _ (law : KnownComeByChains) (axioms : List Axiom) (facts : List Fact) (known : AreKnown facts) (holds : HoldsKnown axioms facts) where
  class_held : (b : Basic) (c : ClassId) (f : Fact) (t : Term) → In f facts → match_at b f ≡ Some t → Chain axioms b (Class c) → IsKnown t → In (ClassFact c t) facts
  class_held b c f t i m chain k = holds (ClassFact c t) ((law axioms facts c t k).1 (b, f, i, m, chain)) k

  first_held : (σ : Terms) (p : LinkId) (c : ClassId) (x y : Arg) → Chain axioms (Has p Fwd) (Class c) → (f : Fact) → In f facts → AtomIs σ (Linked p x y) f → (g : Fact) × In g facts × AtomIs σ (InClass c x) g
  first_held σ p c x y chain (ClassFact d t) i h = absurd h
  first_held σ p c x y chain (LinkFact q s t) i h =
      (ClassFact c s, class_held (Has p Fwd) c (LinkFact q s t) s i (subst (λ z. match_at (Has z Fwd) (LinkFact q s t) ≡ Some s) (sym h.0) (match_fwd q s t)) chain (known (LinkFact q s t) i).0, (refl, h.1))

  second_held : (σ : Terms) (p : LinkId) (c : ClassId) (x y : Arg) → Chain axioms (Has p Back) (Class c) → (f : Fact) → In f facts → AtomIs σ (Linked p x y) f → (g : Fact) × In g facts × AtomIs σ (InClass c y) g
  second_held σ p c x y chain (ClassFact d t) i h = absurd h
  second_held σ p c x y chain (LinkFact q s t) i h =
      (ClassFact c t, class_held (Has p Back) c (LinkFact q s t) t i (subst (λ z. match_at (Has z Back) (LinkFact q s t) ≡ Some t) (sym h.0) (match_back q s t)) chain (known (LinkFact q s t) i).1, (refl, h.2))

  asked_held : (σ : Terms) {b : Atom} {c : ClassId} {x : Arg} → Asks axioms b c x → (f : Fact) → In f facts → AtomIs σ b f → (g : Fact) × In g facts × AtomIs σ (InClass c x) g
  asked_held σ (at_first {p = p} {c = c} {x = x} {y = y} chain) f i h = first_held σ p c x y chain f i h
  asked_held σ (at_second {p = p} {c = c} {x = x} {y = y} chain) f i h = second_held σ p c x y chain f i h

  -- a match of the lean query is one of the query
  lean_match : {q m : Query} → IsLean axioms q m → (ts : List Term) (σ : Terms) → IsMatch facts m ts σ → IsMatch facts q ts σ
  lean_match {q} {m} lean ts σ w = record {
    atoms = λ a i. elim (lean.atoms.rest a i) [
      | inl k ↦ w.atoms a k
      | inr h ↦ (let s = h.3 in
          let f = w.atoms s.0 (still_there lean.atoms s.1 s.2) in
          subst (λ z. (g : Fact) × In g facts × AtomIs σ z g) (sym h.2) (asked_held σ s.2 f.0 f.1 f.2))
    ];
    head = subst (λ h. Pairwise (ArgIs σ) h ts) lean.head w.head;
  }

  match_lean : {q m : Query} → IsLean axioms q m → (ts : List Term) (σ : Terms) → IsMatch facts q ts σ → IsMatch facts m ts σ
  match_lean lean ts σ w = record { atoms = λ a i. w.atoms a (lean.atoms.from a i); head = subst (λ h. Pairwise (ArgIs σ) h ts) (sym lean.head) w.head }

  pub same_images : (queries leans : List Query) → AllLean axioms queries leans → (ts : List Term) → HasImage facts queries ts ↔ HasImage facts leans ts
  same_images queries leans are ts = (
    (λ h. (let m = are.all h.0 h.1 in (m.0, m.1, (h.2.0, match_lean m.2 ts h.2.0 h.2.1)))),
    (λ h. (let q = are.each h.0 h.1 in (q.0, q.1, (h.2.0, lean_match q.2 ts h.2.0 h.2.1)))),
  )

-- a variable that stands in some atom
count_some : (v : VarId) (atoms : List Atom) → 1 ≤ count v atoms → (a : Atom) × In a atoms × (1 ≤ atom_occurs v a)
count_some v [] l = absurd (omega (arith, l))
count_some v (a ∷ atoms) l = elim (either (atom_occurs v a) (count v atoms) l) [
  | inl k ↦ (a, here refl, k)
  | inr k ↦ (let h = count_some v atoms k in (h.0, there h.1, h.2))
]
  where
    either : (m n : ℕ) → 1 ≤ m + n → (1 ≤ m) ⊎ (1 ≤ n)
    either m n l = grind arith

some_count : (v : VarId) (atoms : List Atom) (a : Atom) → In a atoms → 1 ≤ atom_occurs v a → 1 ≤ count v atoms
some_count v [] a i l = elim i [ ]
some_count v (b ∷ atoms) a (here e) l = let k : 1 ≤ atom_occurs v b = subst (λ z. 1 ≤ atom_occurs v z) (sym e) l in omega (arith, k)
some_count v (b ∷ atoms) a (there i) l = let k = some_count v atoms a i l in omega (arith, k)

asks_occurs : {axioms : List Axiom} (v : VarId) {b : Atom} {c : ClassId} {x : Arg} → Asks axioms b c x → occurs v x ≤ atom_occurs v b
asks_occurs v (at_first {x = x} {y = y} chain) = omega arith
asks_occurs v (at_second {x = x} {y = y} chain) = omega arith

lean_count : {axioms : List Axiom} {all lean : List Atom} → AreLean axioms all all lean → (v : VarId) → 1 ≤ count v all → 1 ≤ count v lean
lean_count {axioms} {all} {lean} are v l =
    let a = count_some v all l in
    elim (are.rest a.0 a.1) [
      | inl k ↦ some_count v lean a.0 k a.2
      | inr h ↦ (let s = h.3 in
          let e : 1 ≤ occurs v h.1 = subst (λ z. 1 ≤ atom_occurs v z) h.2 a.2 in
          some_count v lean s.0 (still_there are s.1 s.2) (omega (arith, e, asks_occurs v s.2)))
    ]

-- the head of a lean query stands where that of the query does
pub lean_stands : {axioms : List Axiom} {q m : Query} → IsLean axioms q m → HeadStands q → HeadStands m
lean_stands lean stands x i =
    let h = stands x (subst (In x) lean.head i) in
    (h.0, h.1, λ v e. lean_count lean.atoms v (h.2 v e))

-- a link atom asks for what lies above its ends
pub first_asks : {axioms : List Axiom} (a : Atom) (p : LinkId) (x y arg : Arg) (c : ClassId) → a ≡ Linked p x y → (x ≡ arg) × Chain axioms (Has p Fwd) (Class c) → Asks axioms a c arg
first_asks {axioms} a p x y arg c e h = subst (λ z. Asks axioms z c arg) (sym e) (subst (Asks axioms (Linked p x y) c) h.0 (at_first h.1))

pub second_asks : {axioms : List Axiom} (a : Atom) (p : LinkId) (x y arg : Arg) (c : ClassId) → a ≡ Linked p x y → (y ≡ arg) × Chain axioms (Has p Back) (Class c) → Asks axioms a c arg
second_asks {axioms} a p x y arg c e h = subst (λ z. Asks axioms z c arg) (sym e) (subst (Asks axioms (Linked p x y) c) h.0 (at_second h.1))
