-- Reading terms from facts is by one replacement, and by no other.
use Rattle.std.proofs.Common.{◌≡◌, refl, sym, ◌∙◌, ap, subst, ℕ, ◌≤◌, Bool, true, false, List, [], ◌∷◌, ◌⊎◌, inl, inr, Option, Some, None, nat_eq, if◌then◌else◌, arith}
use Rattle.std.specs.Prelude.{◌≢◌, ◌↔◌, IsTrue, option_map, unwrap_or}
use Rattle.certain_semantics.specs.Certain.{TermsKnown}
use Rattle.std.specs.Option.{option_and_then}
use Rattle.std.proofs.lemmas.Bool.{eqb-true, eq-eqb}
use Rattle.vocabulary.specs.declared.ids.VarId.{VarId}
use Rattle.vocabulary.specs.declared.term.Term.{Term, Named}
use Rattle.vocabulary.specs.declared.term.Fact.{Fact}
use Rattle.vocabulary.specs.declared.term.Fact.TheVariants.{InClass as ClassFact, Linked as LinkFact}
use Rattle.vocabulary.specs.Lists.{In, here, there, Pairwise}
use Rattle.queries.specs.declared.query.Arg.{Arg}
use Rattle.queries.specs.declared.query.Arg.TheVariants.{Blank, Var, Fixed}
use Rattle.queries.specs.declared.query.Atom.{Atom}
use Rattle.queries.specs.declared.query.Atom.TheVariants.{InClass, Linked}
use Rattle.queries.specs.declared.query.Query.{Query}
use Rattle.queries.specs.Matches.{ArgIs, AtomIs, HeadIs, Terms}
use Rattle.queries.specs.Occurrences.{HeadStands, atom_occurs, count, occurs}
use Rattle.why_answers.specs.Explanations.{Reads}
use Rattle.why_answers.specs.Reading.{ArgReads, AtomReads, arg_term, atom_term, head_term, head_terms, or_else, term_in}

-- each variable for the term at its first place
abbrev reading : List Atom → List Fact → Terms
reading atoms facts = λ v. unwrap_or (term_in v atoms facts) (Named [])

arg_is : (atoms : List Atom) (facts : List Fact) (x : Arg) (t : Term) → ArgReads atoms facts x t → ArgIs (reading atoms facts) x t
arg_is atoms facts Blank t r = tt
arg_is atoms facts (Var v) t r = ap (λ o. unwrap_or o (Named [])) r
arg_is atoms facts (Fixed u) t r = r

atom_is : (atoms : List Atom) (facts : List Fact) (a : Atom) (f : Fact) → AtomReads atoms facts a f → AtomIs (reading atoms facts) a f
atom_is atoms facts (InClass a x) (ClassFact b t) r = (r.0, arg_is atoms facts x t r.1)
atom_is atoms facts (InClass a x) (LinkFact q s t) r = absurd r
atom_is atoms facts (Linked p x y) (ClassFact b t) r = absurd r
atom_is atoms facts (Linked p x y) (LinkFact q s t) r = (r.0, arg_is atoms facts x s r.1, arg_is atoms facts y t r.2)

all_are : (atoms : List Atom) (facts : List Fact) (rest : List Atom) (behind : List Fact) → Pairwise (AtomReads atoms facts) rest behind → Pairwise (AtomIs (reading atoms facts)) rest behind
all_are atoms facts [] [] r = tt
all_are atoms facts [] (f ∷ fs) r = absurd r
all_are atoms facts (a ∷ as') [] r = absurd r
all_are atoms facts (a ∷ as') (f ∷ fs) r = (atom_is atoms facts a f r.0, all_are atoms facts as' fs r.1)

-- what is read is read by one replacement
pub one_reads : (atoms : List Atom) (facts : List Fact) → Pairwise (AtomReads atoms facts) atoms facts → (σ : Terms) × Pairwise (AtomIs σ) atoms facts
one_reads atoms facts r = (reading atoms facts, all_are atoms facts atoms facts r)

same_var : (v w : VarId) → nat_eq w.0 v.0 ≡ true → w ≡ v
same_var v w e = let same = eqb-true w.0 v.0 e in λ i. record { 0 = same i }

module _ (σ : Terms) where
  -- a variable of the argument has its term there
  arg_has : (v : VarId) (x : Arg) (t : Term) → ArgIs σ x t → (arg_term v x t ≡ Some (σ v)) ⊎ ((arg_term v x t ≡ None) × (occurs v x ≡ 0))
  arg_has v Blank t i = inr (refl, refl)
  arg_has v (Fixed u) t i = inr (refl, refl)
  arg_has v (Var w) t i = by (nat_eq w.0 v.0) refl
    where
      by : (b : Bool) → nat_eq w.0 v.0 ≡ b → ((if b then Some t else None) ≡ Some (σ v)) ⊎ (((if b then Some t else None) ≡ None) × ◌≡◌ {A = ℕ} (if b then 1 else 0) 0)
      by true e = inl (ap Some (sym i ∙ ap σ (same_var v w e)))
      by false e = inr (refl, refl)

  atom_has : (v : VarId) (a : Atom) (f : Fact) → AtomIs σ a f → (atom_term v a f ≡ Some (σ v)) ⊎ ((atom_term v a f ≡ None) × (atom_occurs v a ≡ 0))
  atom_has v (InClass a x) (ClassFact b t) i = arg_has v x t i.1
  atom_has v (InClass a x) (LinkFact q s t) i = absurd i
  atom_has v (Linked p x y) (ClassFact b t) i = absurd i
  atom_has v (Linked p x y) (LinkFact q s t) i =
      elim (arg_has v x s i.1) [
        | inl e ↦ inl (ap (λ o. or_else o (arg_term v y t)) e)
        | inr n ↦ elim (arg_has v y t i.2) [
          | inl e ↦ inl (ap (λ o. or_else o (arg_term v y t)) n.0 ∙ e)
          | inr m ↦ (let one = n.1 in let two = m.1 in inr (ap (λ o. or_else o (arg_term v y t)) n.0 ∙ m.0, omega (arith, one, two)))
        ]
      ]

  -- a variable that stands in the atoms has its term at its first place
  term_is : (v : VarId) (atoms : List Atom) (facts : List Fact) → Pairwise (AtomIs σ) atoms facts → 1 ≤ count v atoms → term_in v atoms facts ≡ Some (σ v)
  term_is v [] facts p c = absurd (omega (arith, c))
  term_is v (a ∷ atoms) [] p c = absurd p
  term_is v (a ∷ atoms) (f ∷ facts) p c =
      elim (atom_has v a f p.0) [
        | inl e ↦ ap (λ o. or_else o (term_in v atoms facts)) e
        | inr n ↦ (let none = n.1 in ap (λ o. or_else o (term_in v atoms facts)) n.0 ∙ term_is v atoms facts p.1 (omega (arith, c, none)))
      ]

  module _ (atoms : List Atom) (facts : List Fact) (all : Pairwise (AtomIs σ) atoms facts) where
    arg_reads : (x : Arg) (t : Term) → ((v : VarId) → 1 ≤ occurs v x → 1 ≤ count v atoms) → ArgIs σ x t → ArgReads atoms facts x t
    arg_reads Blank t stands i = tt
    arg_reads (Fixed u) t stands i = i
    arg_reads (Var v) t stands i =
        let one : 1 ≤ occurs v (Var v) = (let e : occurs v (Var v) ≡ 1 = ap {A = Bool} {B = ℕ} (λ b. if b then 1 else 0) (eq-eqb v.0 v.0 refl) in omega (arith, e)) in
        term_is v atoms facts all (stands v one) ∙ ap Some i

    atom_reads : (a : Atom) (f : Fact) → ((v : VarId) → atom_occurs v a ≤ count v atoms) → AtomIs σ a f → AtomReads atoms facts a f
    atom_reads (InClass a x) (ClassFact b t) stands i = (i.0, arg_reads x t (λ v one. (let low = stands v in omega (arith, one, low))) i.1)
    atom_reads (InClass a x) (LinkFact q s t) stands i = absurd i
    atom_reads (Linked p x y) (ClassFact b t) stands i = absurd i
    atom_reads (Linked p x y) (LinkFact q s t) stands i =
        (i.0, arg_reads x s (λ v one. (let low = stands v in omega (arith, one, low))) i.1, arg_reads y t (λ v one. (let low = stands v in omega (arith, one, low))) i.2)

    rest_reads : (rest : List Atom) (behind : List Fact) → ((a : Atom) → In a rest → (v : VarId) → atom_occurs v a ≤ count v atoms) → Pairwise (AtomIs σ) rest behind → Pairwise (AtomReads atoms facts) rest behind
    rest_reads [] [] stands p = tt
    rest_reads [] (f ∷ fs) stands p = absurd p
    rest_reads (a ∷ rest) [] stands p = absurd p
    rest_reads (a ∷ rest) (f ∷ fs) stands p = (atom_reads a f (stands a (here refl)) p.0, rest_reads rest fs (λ b i. stands b (there i)) p.1)

  counted : (v : VarId) (a : Atom) (atoms : List Atom) → In a atoms → atom_occurs v a ≤ count v atoms
  counted v a [] i = elim i [ ]
  counted v a (b ∷ atoms) (here e) = let same = ap (atom_occurs v) e in omega (arith, same)
  counted v a (b ∷ atoms) (there i) = let rest = counted v a atoms i in omega (arith, rest)

  -- what one replacement reads is read
  pub reads_by : (atoms : List Atom) (facts : List Fact) → Pairwise (AtomIs σ) atoms facts → Pairwise (AtomReads atoms facts) atoms facts
  reads_by atoms facts p = rest_reads atoms facts p atoms facts (λ a i v. counted v a atoms i) p

  -- the terms of the head are the tuple to which it goes
  module _ (atoms : List Atom) (facts : List Fact) (all : Pairwise (AtomIs σ) atoms facts) where
    abbrev Stands : Arg → Type 0
    Stands x = (x ≢ Blank) × ((v : VarId) → x ≡ Var v → 1 ≤ count v atoms)

    value_of : (x : Arg) → Stands x → (t : Term) × (head_term atoms facts x ≡ Some t) × ((u : Term) → ArgIs σ x u ↔ (t ≡ u))
    value_of Blank s = absurd (s.0 refl)
    value_of (Var v) s = (σ v, term_is v atoms facts all (s.1 v refl), λ u. (λ i. i, λ i. i))
    value_of (Fixed c) s = (c, refl, λ u. (λ i. i, λ i. i))

    to_head : (head : List Arg) (tuple : List Term) → ((x : Arg) → In x head → Stands x) → HeadIs σ head tuple → head_terms atoms facts head ≡ Some tuple
    to_head [] [] s h = refl
    to_head [] (t ∷ ts) s h = absurd h
    to_head (x ∷ xs) [] s h = absurd h
    to_head (x ∷ xs) (t ∷ ts) s h =
        let v = value_of x (s x (here refl)) in
        ap (option_and_then (λ u. option_map (λ us. u ∷ us) (head_terms atoms facts xs))) (v.1 ∙ ap Some ((v.2 t).0 h.0))
        ∙ ap (option_map (λ us. t ∷ us)) (to_head xs ts (λ y i. s y (there i)) h.1)

    from_head : (head : List Arg) (tuple : List Term) → ((x : Arg) → In x head → Stands x) → head_terms atoms facts head ≡ Some tuple → HeadIs σ head tuple
    from_head [] tuple s e = let none : [] ≡ tuple = cc in subst (HeadIs σ []) none tt
    from_head (x ∷ xs) tuple s e =
        let v = value_of x (s x (here refl)) in
        by v.0 v.2 (head_terms atoms facts xs) (λ ts. from_head xs ts (λ y i. s y (there i))) (ap (option_and_then (λ u. option_map (λ us. u ∷ us) (head_terms atoms facts xs))) (sym v.1) ∙ e)
      where
        by : (t : Term) → ((u : Term) → ArgIs σ x u ↔ (t ≡ u)) → (o : Option (List Term)) → ((ts : List Term) → o ≡ Some ts → HeadIs σ xs ts) → option_map (λ us. t ∷ us) o ≡ Some tuple → HeadIs σ (x ∷ xs) tuple
        by t is None rest h = cc
        by t is (Some us) rest h =
            let same : t ∷ us ≡ tuple = cc in
            subst (HeadIs σ (x ∷ xs)) same ((is t).1 refl, rest us refl)

-- the facts read as the tuple exactly where it is what the head has
pub reads_tuple : (q : Query) (facts : List Fact) (tuple : List Term) → HeadStands q → Pairwise (AtomReads q.atoms facts) q.atoms facts → (head_terms q.atoms facts q.head ≡ Some tuple) ↔ Reads q facts tuple
reads_tuple q facts tuple stands r =
    let one = one_reads q.atoms facts r in (
      λ e. record { terms = one.0; atoms = one.1; head = from_head one.0 q.atoms facts one.1 q.head tuple (λ x i. ((stands x i).1, (stands x i).2)) e },
      λ w. to_head w.terms q.atoms facts w.atoms q.head tuple (λ x i. ((stands x i).1, (stands x i).2)) w.head,
    )

-- what is not read is no reading
pub not_read : (q : Query) (facts : List Fact) (atoms : List Atom) (b : Bool) → atoms ≡ q.atoms → (IsTrue b ↔ Pairwise (AtomReads atoms facts) atoms facts) → b ≡ false → (tuple : List Term) → (◌≡◌ {A = Option (List Term)} None (Some tuple)) ↔ (Reads q facts tuple × TermsKnown tuple)
not_read q facts atoms b same is fails tuple =
    ((λ e. absurd cc), (λ h. absurd (clash (sym fails ∙ is.1 (subst (λ as'. Pairwise (AtomReads as' facts) as' facts) (sym same) (reads_by h.0.terms q.atoms facts h.0.atoms))))))
  where
    clash : false ≡ true → ⊥
    clash e = cc

same_some : (x y : List Term) → Some x ≡ Some y → x ≡ y
same_some x y e = cc

module _ (q : Query) (facts : List Fact) (atoms : List Atom) (head : List Arg) (stands : HeadStands q) (same : atoms ≡ q.atoms) (same_head : head ≡ q.head) (r : Pairwise (AtomReads atoms facts) atoms facts) where
  as_query : head_terms atoms facts head ≡ head_terms q.atoms facts q.head
  as_query = ap (λ as'. head_terms as' facts head) same ∙ ap (head_terms q.atoms facts) same_head

  tuple_of : (tuple : List Term) → (head_terms q.atoms facts q.head ≡ Some tuple) ↔ Reads q facts tuple
  tuple_of tuple = reads_tuple q facts tuple stands (subst (λ as'. Pairwise (AtomReads as' facts) as' facts) same r)

  -- the terms of the head are read
  pub some_read : (t : List Term) → Some t ≡ head_terms atoms facts head → TermsKnown t → (tuple : List Term) → (Some t ≡ Some tuple) ↔ (Reads q facts tuple × TermsKnown tuple)
  some_read t e known tuple = (
    λ h. (let one = same_some t tuple h in (subst (Reads q facts) one ((tuple_of t).0 (sym as_query ∙ sym e)), subst TermsKnown one known)),
    λ h. e ∙ as_query ∙ (tuple_of tuple).1 h.0,
  )

  -- and none where they are not known, or there are none
  pub none_read : (o : Option (List Term)) → o ≡ head_terms atoms facts head → ((t : List Term) → o ≡ Some t → TermsKnown t → ⊥) → (tuple : List Term) → (◌≡◌ {A = Option (List Term)} None (Some tuple)) ↔ (Reads q facts tuple × TermsKnown tuple)
  none_read o e fails tuple = ((λ h. absurd cc), (λ h. absurd (fails tuple (e ∙ as_query ∙ (tuple_of tuple).1 h.0) h.1)))
