-- The terms of an image of all variables in their places: atoms without variables.
use Rattle.std.proofs.Common.{ℕ, zero, suc, arith, ◌≡◌, refl, sym, ◌∙◌, ap, subst, ◌+◌, ◌<◌, ◌≤◌, Bool, true, false, List, [], ◌∷◌, ◌++◌, length, get_or, map, take, nat_eq, if◌then◌else◌, inl, inr, Some, None}
use Rattle.std.specs.Prelude.{slice_get}
use Rattle.std.proofs.lemmas.List.{take_all, take_more}
use Rattle.vocabulary.specs.declared.ids.VarId.{VarId}
use Rattle.vocabulary.specs.declared.term.Term.{Term}
use Rattle.vocabulary.specs.declared.term.Fact.{Fact}
use Rattle.vocabulary.specs.Lists.{In, here, there, Pairwise, IsListOf}
use Rattle.vocabulary.proofs.Lists.{In-append_cases}
use Rattle.queries.specs.declared.query.Arg.{Arg}
use Rattle.queries.specs.declared.query.Arg.TheVariants.{Blank, Var, Fixed}
use Rattle.queries.specs.declared.query.Atom.{Atom}
use Rattle.queries.specs.declared.query.Atom.TheVariants.{InClass, Linked}
use Rattle.queries.specs.declared.query.Query.{Query}
use Rattle.queries.specs.declared.unify.Change.TheVariants.{Put}
use Rattle.queries.specs.Changes.{changed, changed_atom}
use Rattle.queries.specs.Matches.{AtomIs, HeadIs, Matched, Terms}
use Rattle.queries.specs.Occurrences.{atom_occurs, count, occurs}
use Rattle.queries.specs.Order.{tuple_cmp}
use Rattle.source_tables.specs.Tables.{Loaded}
use Rattle.mapping_facts.specs.declared.mapping.Mapping.{Mapping}
use Rattle.mapping_facts.specs.Facts.{mapped_facts}
use Rattle.mapping_facts.proofs.Members.{In-slice_get}
use Rattle.query_images.specs.Cuts.{HasAllVariables}
use Rattle.query_images.specs.Images.{IsImage}
use Rattle.query_images.proofs.Parts.{atom_as, row_head}
use Rattle.why_answers.specs.Asking.{put_term, put_tuple}
use Rattle.why_answers.specs.Matching.{AreWithoutVariables, HasFact, IsFactOf, IsWithoutVariables, NoMatch, ReadMapped}
use Rattle.why_answers.proofs.Tupled.{tuple_back, tuple_on}

-- a constant in the place of a variable takes it away, and brings none
arg_fewer : (v w : VarId) (t : Term) (x : Arg) → occurs w (changed (Put v (Fixed t)) x) ≤ occurs w x
arg_fewer v w t Blank = omega arith
arg_fewer v w t (Fixed c) = omega arith
arg_fewer v w t (Var u) = elim (nat_eq u.0 v.0) as (λ b. occurs w (if b then Fixed t else Var u) ≤ occurs w (Var u)) [ true ↦ omega arith | false ↦ omega arith ]

atom_fewer : (v w : VarId) (t : Term) (a : Atom) → atom_occurs w (changed_atom (Put v (Fixed t)) a) ≤ atom_occurs w a
atom_fewer v w t (InClass a x) = arg_fewer v w t x
atom_fewer v w t (Linked p x y) = omega (arith, arg_fewer v w t x, arg_fewer v w t y)

fewer : (v w : VarId) (t : Term) (atoms : List Atom) → count w (put_term (Var v) t atoms) ≤ count w atoms
fewer v w t [] = omega arith
fewer v w t (a ∷ atoms) = omega (arith, atom_fewer v w t a, fewer v w t atoms)

arg_gone : (v : VarId) (t : Term) (x : Arg) → occurs v (changed (Put v (Fixed t)) x) ≡ 0
arg_gone v t Blank = refl
arg_gone v t (Fixed c) = refl
arg_gone v t (Var u) = by (nat_eq u.0 v.0) refl
  where
    by : (b : Bool) → nat_eq u.0 v.0 ≡ b → occurs v (if b then Fixed t else Var u) ≡ 0
    by true e = refl
    by false e = rw e refl

atom_gone : (v : VarId) (t : Term) (a : Atom) → atom_occurs v (changed_atom (Put v (Fixed t)) a) ≡ 0
atom_gone v t (InClass a x) = arg_gone v t x
atom_gone v t (Linked p x y) = omega (arith, arg_gone v t x, arg_gone v t y)

gone : (v : VarId) (t : Term) (atoms : List Atom) → count v (put_term (Var v) t atoms) ≡ 0
gone v t [] = refl
gone v t (a ∷ atoms) = omega (arith, atom_gone v t a, gone v t atoms)

stays_gone : (w : VarId) (vars : List VarId) (ts : List Term) (atoms : List Atom) → count w atoms ≡ 0 → count w (put_tuple (map Var vars) ts atoms) ≡ 0
stays_gone w [] ts atoms none = none
stays_gone w (v ∷ vars) [] atoms none = none
stays_gone w (v ∷ vars) (t ∷ ts) atoms none = stays_gone w vars ts (put_term (Var v) t atoms) (omega (arith, fewer v w t atoms, none))

each_gone : (σ : Terms) (w : VarId) (vars : List VarId) (ts : List Term) (atoms : List Atom) → HeadIs σ (map Var vars) ts → In w vars → count w (put_tuple (map Var vars) ts atoms) ≡ 0
each_gone σ w [] ts atoms h i = elim i [ ]
each_gone σ w (v ∷ vars) [] atoms h i = absurd h
each_gone σ w (v ∷ vars) (t ∷ ts) atoms h (here e) = stays_gone w vars ts (put_term (Var v) t atoms) (subst (λ z. count z (put_term (Var v) t atoms) ≡ 0) e (gone v t atoms))
each_gone σ w (v ∷ vars) (t ∷ ts) atoms h (there i) = each_gone σ w vars ts (put_term (Var v) t atoms) h.1 i

all_gone : (σ : Terms) (vars : List VarId) (ts : List Term) (atoms : List Atom) → HeadIs σ (map Var vars) ts → ((v : VarId) → 1 ≤ count v atoms → In v vars) → AreWithoutVariables (put_tuple (map Var vars) ts atoms)
all_gone σ vars ts atoms h all w = by (count w atoms) refl
  where
    by : (n : ℕ) → count w atoms ≡ n → count w (put_tuple (map Var vars) ts atoms) ≡ 0
    by zero e = stays_gone w vars ts atoms e
    by (suc n) e = each_gone σ w vars ts atoms h (all w (omega (arith, e)))

module _ (facts : List Fact) (q full : Query) (has : HasAllVariables q full) where
  -- without an image there is no match
  pub no_image : (found : List (List Term)) → found ≡ [] → IsListOf tuple_cmp (IsImage facts full) found → NoMatch facts q.atoms
  unfolding IsImage
  no_image found none is σ m = nothing (subst (In (map σ has.vars)) none (is.all (map σ has.vars) (
    σ,
    record {
      atoms = subst (Matched facts σ) (sym has.atoms) m;
      head = subst (λ head. HeadIs σ head (map σ has.vars)) (sym has.head) (row_head σ has.vars);
    },
  )))
    where
      nothing : {ts : List Term} → In ts [] → ⊥
      nothing i = elim i [ ]

  module _ (ts : List Term) (image : IsImage facts full ts) where
    pub solid : AreWithoutVariables (put_tuple full.head ts full.atoms)
    unfolding IsImage
    solid = subst (λ head. AreWithoutVariables (put_tuple head ts full.atoms)) (sym has.head)
        (all_gone image.0 has.vars ts full.atoms (subst (λ head. HeadIs image.0 head ts) has.head image.1.head) (λ v l. (has.stand v).1 (subst (λ z. 1 ≤ count v z) has.atoms l)))

    pub solid_matched : (σ : Terms) × Matched facts σ (put_tuple full.head ts full.atoms)
    unfolding IsImage
    solid_matched = (image.0, tuple_on facts image.0 full.head ts image.1.head full.atoms image.1.atoms)

-- facts for the atoms with the image in them are facts for the query's
pub solid_read : (mappings : List Mapping) (tables : List Loaded) (q full : Query) → HasAllVariables q full → (ts : List Term) → IsImage (mapped_facts mappings tables) full ts → (facts : List Fact) →
    ReadMapped mappings tables (put_tuple full.head ts full.atoms) facts → ReadMapped mappings tables q.atoms facts
unfolding IsImage
solid_read mappings tables q full has ts image facts r =
    let back = tuple_back image.0 full.head ts image.1.head full.atoms facts r.read.0 r.read.1 in
    record { read = (back.0, subst (λ atoms. Pairwise (AtomIs back.0) atoms facts) has.atoms back.1); mapped = r.mapped }

-- an atom alone
one_atom : (facts : List Fact) (a : Atom) (σ : Terms) (f : Fact) → In f facts → AtomIs σ a f → Matched facts σ (a ∷ [])
one_atom facts a σ f i is b (here e) = (f, i, subst (λ z. AtomIs σ z f) e is)
one_atom facts a σ f i is b (there k) = elim k [ ]

pub has_match : (facts : List Fact) (a : Atom) (atoms : List Atom) → atoms ≡ a ∷ [] → HasFact facts a → NoMatch facts atoms → ⊥
has_match facts a atoms e h none = none h.0 (subst (Matched facts h.0) (sym e) (one_atom facts a h.0 h.1 h.2 h.3))

any_terms : (a : Atom) (f : Fact) → IsWithoutVariables a → (σ τ : Terms) → AtomIs σ a f → AtomIs τ a f
any_terms a f none σ τ is = atom_as σ τ a f (λ v o. absurd (omega (arith, o, none v))) is

pub one_fact : (mappings : List Mapping) (tables : List Loaded) (a : Atom) (atoms : List Atom) (facts before : List Fact) (f : Fact) → IsWithoutVariables a → atoms ≡ a ∷ [] → facts ≡ before ++ f ∷ [] → ReadMapped mappings tables atoms facts → IsFactOf (mapped_facts mappings tables) a f
one_fact mappings tables a atoms facts before f none e is r =
    let one = only before (subst (λ fs. Pairwise (AtomIs r.read.0) (a ∷ []) fs) is (subst (λ z. Pairwise (AtomIs r.read.0) z facts) e r.read.1)) in
    (r.mapped f (subst (In f) (sym is) (last before)), λ τ. any_terms a f none r.read.0 τ one)
  where
    last : (fs : List Fact) → In f (fs ++ f ∷ [])
    last [] = here refl
    last (g ∷ fs) = there (last fs)

    only : (fs : List Fact) → Pairwise (AtomIs r.read.0) (a ∷ []) (fs ++ f ∷ []) → AtomIs r.read.0 a f
    only [] p = p.0
    only (g ∷ []) p = absurd p.1
    only (g ∷ (h ∷ fs)) p = absurd p.1

-- one atom further
pub record AreFactsOf (facts : List Fact) (atoms : List Atom) (found : List Fact) : Type 0 where
  pub each : (σ : Terms) → Pairwise (AtomIs σ) atoms found
  pub among : (f : Fact) → In f found → In f facts

pub none_yet : (facts : List Fact) (atoms : List Atom) (found : List Fact) → found ≡ [] → AreFactsOf facts (take 0 atoms) found
none_yet facts atoms found e = rw e (record { each = λ σ. tt; among = λ f i. elim i [ ] })

pair_push : (σ : Terms) (xs : List Atom) (ys : List Fact) (x : Atom) (y : Fact) → Pairwise (AtomIs σ) xs ys → AtomIs σ x y → Pairwise (AtomIs σ) (xs ++ x ∷ []) (ys ++ y ∷ [])
pair_push σ [] [] x y p r = (r, tt)
pair_push σ [] (b ∷ ys) x y p r = absurd p
pair_push σ (a ∷ xs) [] x y p r = absurd p
pair_push σ (a ∷ xs) (b ∷ ys) x y p r = (p.0, pair_push σ xs ys x y p.1 r)

pub one_fact_more : (facts : List Fact) (atoms : List Atom) (i : ℕ) (a : Atom) (old new : List Fact) (f : Fact) → i < length atoms → a ≡ get_or atoms i a → AreFactsOf facts (take i atoms) old → IsFactOf facts a f → new ≡ old ++ f ∷ [] → AreFactsOf facts (take (i + 1) atoms) new
one_fact_more facts atoms i a old new f l is so_far one e = rw (take_more atoms i a l ∙ ap (λ z. take i atoms ++ z ∷ []) (sym is), e) (record {
  each = λ σ. pair_push σ (take i atoms) old a f (so_far.each σ) (one.1 σ);
  among = λ g k. elim (In-append_cases old (f ∷ []) k) [
    | inl j ↦ so_far.among g j
    | inr j ↦ elim j [ here h ↦ subst (λ z. In z facts) h one.0 | there n ↦ elim n [ ] ]
  ];
})

-- what stands in no atom stands in none of them
pub one_without : (atoms : List Atom) (a : Atom) → In a atoms → AreWithoutVariables atoms → IsWithoutVariables a
one_without [] a i none v = elim i [ ]
one_without (b ∷ atoms) a (here e) none v = omega (arith, none v, ap (atom_occurs v) e)
one_without (b ∷ atoms) a (there i) none v = one_without atoms a i (λ w. omega (arith, none w)) v

pub one_has : (facts : List Fact) (atoms : List Atom) (a : Atom) → In a atoms → ((σ : Terms) × Matched facts σ atoms) → HasFact facts a
one_has facts atoms a i m = let r = m.1 a i in (m.0, r.0, r.1, r.2)

pub read_all : (mappings : List Mapping) (tables : List Loaded) (atoms : List Atom) (i : ℕ) (found : List Fact) → length atoms ≤ i → Terms → AreFactsOf (mapped_facts mappings tables) (take i atoms) found → ReadMapped mappings tables atoms found
read_all mappings tables atoms i found l σ all =
    let each = subst (λ z. AreFactsOf (mapped_facts mappings tables) z found) (take_all i atoms l) all in
    record { read = (σ, each.each σ); mapped = each.among }

-- the first of a list
pub no_first : {X : Type 0} (xs items : List X) → items ≡ xs → slice_get items 0 ≡ None → xs ≡ []
no_first [] items same e = refl
no_first (x ∷ xs) items same e = absurd (some_none x (ap (λ l. slice_get l 0) (sym same) ∙ e))
  where
    some_none : {X : Type 0} (x : X) → Some x ≡ None → ⊥
    some_none x h = cc

pub first_listed : {X : Type 0} (xs items : List X) (x : X) → items ≡ xs → slice_get items 0 ≡ Some x → In x xs
first_listed xs items x same e = subst (In x) same (In-slice_get items 0 x e)
