-- A mapping is sound: each match of the query that is mapped into gives one of the query that maps, with the same image of the head.
use Rattle.std.proofs.Common.{◌≡◌, sym, subst, ap, refl, ◌∙◌, ℕ, ◌+◌, ◌<◌, ◌≤◌, List, [], ◌∷◌, map, nat_eq, if◌then◌else◌, arith}
use Rattle.std.proofs.lemmas.Bool.{eq-eqb, ne_eqb}
use Rattle.vocabulary.specs.declared.ids.VarId.{VarId}
use Rattle.vocabulary.specs.declared.term.Fact.{Fact}
use Rattle.vocabulary.specs.declared.term.Fact.TheVariants.{InClass as ClassFact, Linked as LinkFact}
use Rattle.vocabulary.specs.declared.term.Term.{Term, Named}
use Rattle.vocabulary.specs.Lists.{In, here, there}
use Rattle.queries.specs.declared.query.Arg.{Arg}
use Rattle.queries.specs.declared.query.Arg.TheVariants.{Blank, Var, Fixed}
use Rattle.queries.specs.declared.query.Atom.{Atom}
use Rattle.queries.specs.declared.query.Atom.TheVariants.{InClass, Linked}
use Rattle.queries.specs.declared.query.Query.{Query}
use Rattle.queries.specs.Matches.{ArgIs, AtomIs, HeadIs, IsMatch, Matched, Terms}
use Rattle.query_subsumption.specs.Subsumption.{MapsInto, Replacement, apart, apart_arg, apart_args, apart_atom, apart_atoms, arg_image, atom_image, blanks_in_arg, blanks_in_args, blanks_in_atom, first_free, past_arg, past_args, past_atom, past_atoms}
use Rattle.query_subsumption.proofs.Solving.{var}

-- the term of an argument, where no Blank stands
abbrev value : Terms → Arg → Term
value σ Blank = Named []
value σ (Var v) = σ v
value σ (Fixed t) = t

abbrev fact : Terms → Atom → Fact
fact σ (InClass c x) = ClassFact c (value σ x)
fact σ (Linked p x y) = LinkFact p (value σ x) (value σ y)

-- a match of a query with no Blank
record Fits (facts : List Fact) (q : Query) (tuple : List Term) (σ : Terms) : Type 0 where
  atoms : (a : Atom) → In a q.atoms → In (fact σ a) facts
  head : map (value σ) q.head ≡ tuple

-- a match through a replacement
abbrev through : Terms → Replacement → Terms
through σ θ v = value σ (θ v)

value_through : (σ : Terms) (θ : Replacement) (x : Arg) → value (through σ θ) x ≡ value σ (arg_image θ x)
value_through σ θ Blank = refl
value_through σ θ (Var v) = refl
value_through σ θ (Fixed t) = refl

values_through : (σ : Terms) (θ : Replacement) (xs : List Arg) → map (value (through σ θ)) xs ≡ map (value σ) (map (arg_image θ) xs)
values_through σ θ [] = refl
values_through σ θ (x ∷ xs) = λ i. value_through σ θ x i ∷ values_through σ θ xs i

fact_through : (σ : Terms) (θ : Replacement) (a : Atom) → fact σ (atom_image θ a) ≡ fact (through σ θ) a
fact_through σ θ (InClass c x) = λ i. ClassFact c (sym (value_through σ θ x) i)
fact_through σ θ (Linked p x y) = λ i. LinkFact p (sym (value_through σ θ x) i) (sym (value_through σ θ y) i)

fits_through : (facts : List Fact) (g s : Query) (tuple : List Term) (σ : Terms) (m : MapsInto g s) → Fits facts (apart s) tuple σ → Fits facts (apart g) tuple (through σ m.0)
fits_through facts g s tuple σ m f = record {
  atoms = λ a k. subst (λ b. In b facts) (fact_through σ m.0 a) (f.atoms (atom_image m.0 a) (m.1.atoms a k));
  head = values_through σ m.0 (apart g).head ∙ ap (map (value σ)) m.1.heads ∙ f.head;
}

-- a match of the query that is read apart is one of the query
arg_back : (σ : Terms) (n : ℕ) (x : Arg) (t : Term) → value σ (apart_arg n x) ≡ t → ArgIs σ x t
arg_back σ n Blank t e = tt
arg_back σ n (Var v) t e = e
arg_back σ n (Fixed u) t e = e

head_back : (σ : Terms) (n : ℕ) (xs : List Arg) (ts : List Term) → map (value σ) (apart_args n xs) ≡ ts → HeadIs σ xs ts
head_back σ n [] [] e = tt
head_back σ n [] (t ∷ ts) e = absurd (cc)
head_back σ n (x ∷ xs) [] e = absurd (cc)
head_back σ n (x ∷ xs) (t ∷ ts) e =
    let h : value σ (apart_arg n x) ≡ t = cc in
    let k : map (value σ) (apart_args (n + blanks_in_arg x) xs) ≡ ts = cc in
    (arg_back σ n x t h, head_back σ (n + blanks_in_arg x) xs ts k)

atom_back : (σ : Terms) (n : ℕ) (a : Atom) → AtomIs σ a (fact σ (apart_atom n a))
atom_back σ n (InClass c x) = (refl, arg_back σ n x (value σ (apart_arg n x)) refl)
atom_back σ n (Linked p x y) =
    let m = n + blanks_in_arg x in (refl, arg_back σ n x (value σ (apart_arg n x)) refl, arg_back σ m y (value σ (apart_arg m y)) refl)

atoms_back : (σ : Terms) (facts : List Fact) (n : ℕ) (atoms : List Atom) → ((a : Atom) → In a (apart_atoms n atoms) → In (fact σ a) facts) → Matched facts σ atoms
atoms_back σ facts n [] f a m = elim m [ ]
atoms_back σ facts n (b ∷ atoms) f a (here e) =
    (fact σ (apart_atom n b), f (apart_atom n b) (here refl), subst (λ d. AtomIs σ d (fact σ (apart_atom n b))) e (atom_back σ n b))
atoms_back σ facts n (b ∷ atoms) f a (there m) = atoms_back σ facts (n + blanks_in_atom b) atoms (λ d k. f d (there k)) a m

match_back : (facts : List Fact) (q : Query) (tuple : List Term) (σ : Terms) → Fits facts (apart q) tuple σ → IsMatch facts q tuple σ
match_back facts q tuple σ f = record {
  atoms = atoms_back σ facts (first_free q + blanks_in_args q.head) q.atoms f.atoms;
  head = head_back σ (first_free q) q.head tuple f.head;
}

-- a match of a query gives one of the query that is read apart: each Blank gets its term, and what has a lower number keeps its
abbrev SameBelow : ℕ → Terms → Terms → Type 0
SameBelow n τ σ = (w : VarId) → w.0 < n → τ w ≡ σ w

below_on : (n m : ℕ) (ρ τ σ : Terms) → n ≤ m → SameBelow m ρ τ → SameBelow n τ σ → SameBelow n ρ σ
below_on n m ρ τ σ more f g w low = f w (omega (arith, low, more)) ∙ g w low

arg_stays : (τ σ : Terms) (n : ℕ) (x : Arg) (t : Term) → SameBelow n τ σ → past_arg x ≤ n → ArgIs σ x t → ArgIs τ x t
arg_stays τ σ n Blank t same low h = tt
arg_stays τ σ n (Var v) t same low h = same v (omega arith) ∙ h
arg_stays τ σ n (Fixed u) t same low h = h

head_stays : (τ σ : Terms) (n : ℕ) (xs : List Arg) (ts : List Term) → SameBelow n τ σ → past_args xs ≤ n → HeadIs σ xs ts → HeadIs τ xs ts
head_stays τ σ n [] [] same low h = tt
head_stays τ σ n [] (t ∷ ts) same low h = h
head_stays τ σ n (x ∷ xs) [] same low h = h
head_stays τ σ n (x ∷ xs) (t ∷ ts) same low h = (arg_stays τ σ n x t same (omega arith) h.0, head_stays τ σ n xs ts same (omega arith) h.1)

atom_stays : (τ σ : Terms) (n : ℕ) (a : Atom) (f : Fact) → SameBelow n τ σ → past_atom a ≤ n → AtomIs σ a f → AtomIs τ a f
atom_stays τ σ n (InClass c x) (ClassFact d t) same low h = (h.0, arg_stays τ σ n x t same low h.1)
atom_stays τ σ n (InClass c x) (LinkFact q s t) same low h = h
atom_stays τ σ n (Linked p x y) (ClassFact d t) same low h = h
atom_stays τ σ n (Linked p x y) (LinkFact q s t) same low h = (h.0, arg_stays τ σ n x s same (omega arith) h.1, arg_stays τ σ n y t same (omega arith) h.2)

value_stays : (τ σ : Terms) (n : ℕ) (x : Arg) → SameBelow (n + blanks_in_arg x) τ σ → past_arg x ≤ n → value τ (apart_arg n x) ≡ value σ (apart_arg n x)
value_stays τ σ n Blank same low = same (var n) (omega arith)
value_stays τ σ n (Var v) same low = same v (omega arith)
value_stays τ σ n (Fixed t) same low = refl

values_stay : (τ σ : Terms) (n : ℕ) (xs : List Arg) → SameBelow (n + blanks_in_args xs) τ σ → past_args xs ≤ n → map (value τ) (apart_args n xs) ≡ map (value σ) (apart_args n xs)
values_stay τ σ n [] same low = refl
values_stay τ σ n (x ∷ xs) same low =
    let e = value_stays τ σ n x (λ w l. same w (omega arith)) (omega arith) in
    let es = values_stay τ σ (n + blanks_in_arg x) xs (λ w l. same w (omega arith)) (omega arith) in λ i. e i ∷ es i

fact_stays : (τ σ : Terms) (n : ℕ) (a : Atom) → SameBelow (n + blanks_in_atom a) τ σ → past_atom a ≤ n → fact τ (apart_atom n a) ≡ fact σ (apart_atom n a)
fact_stays τ σ n (InClass c x) same low = λ i. ClassFact c (value_stays τ σ n x same low i)
fact_stays τ σ n (Linked p x y) same low =
    let e = value_stays τ σ n x (λ w l. same w (omega arith)) (omega arith) in
    let f = value_stays τ σ (n + blanks_in_arg x) y (λ w l. same w (omega arith)) (omega arith) in λ i. LinkFact p (e i) (f i)

abbrev put : ℕ → Term → Terms → Terms
put n t σ w = if nat_eq w.0 n then t else σ w

put_below : (n : ℕ) (t : Term) (σ : Terms) → SameBelow n (put n t σ) σ
put_below n t σ w low = let h : w.0 ≡ n → ⊥ = omega arith in rw (ne_eqb w.0 n h) refl

arg_there : (σ : Terms) (n : ℕ) (x : Arg) (t : Term) → ArgIs σ x t → (τ : Terms) × SameBelow n τ σ × (value τ (apart_arg n x) ≡ t)
arg_there σ n Blank t h = (put n t σ, put_below n t σ, rw (eq-eqb n n refl) refl)
arg_there σ n (Var v) t h = (σ, λ w l. refl, h)
arg_there σ n (Fixed u) t h = (σ, λ w l. refl, h)

head_there : (σ : Terms) (n : ℕ) (xs : List Arg) (ts : List Term) → past_args xs ≤ n → HeadIs σ xs ts → (τ : Terms) × SameBelow n τ σ × (map (value τ) (apart_args n xs) ≡ ts)
head_there σ n [] [] low h = (σ, λ w l. refl, refl)
head_there σ n [] (t ∷ ts) low h = absurd h
head_there σ n (x ∷ xs) [] low h = absurd h
head_there σ n (x ∷ xs) (t ∷ ts) low h =
    let r = arg_there σ n x t h.0 in
    let k = head_there r.0 (n + blanks_in_arg x) xs ts (omega arith) (head_stays r.0 σ n xs ts r.1 (omega arith) h.1) in
    let e : value k.0 (apart_arg n x) ≡ t = value_stays k.0 r.0 n x k.1 (omega arith) ∙ r.2 in
    (k.0, below_on n (n + blanks_in_arg x) k.0 r.0 σ (omega arith) k.1 r.1, λ i. e i ∷ k.2 i)

atom_there : (σ : Terms) (n : ℕ) (a : Atom) (f : Fact) → past_atom a ≤ n → AtomIs σ a f → (τ : Terms) × SameBelow n τ σ × (fact τ (apart_atom n a) ≡ f)
atom_there σ n (InClass c x) (ClassFact d t) low h = let r = arg_there σ n x t h.1 in (r.0, r.1, λ i. ClassFact (h.0 i) (r.2 i))
atom_there σ n (InClass c x) (LinkFact q s t) low h = absurd h
atom_there σ n (Linked p x y) (ClassFact d t) low h = absurd h
atom_there σ n (Linked p x y) (LinkFact q s t) low h =
    let r = arg_there σ n x s h.1 in
    let k = arg_there r.0 (n + blanks_in_arg x) y t (arg_stays r.0 σ n y t r.1 (omega arith) h.2) in
    let e : value k.0 (apart_arg n x) ≡ s = value_stays k.0 r.0 n x k.1 (omega arith) ∙ r.2 in
    (k.0, below_on n (n + blanks_in_arg x) k.0 r.0 σ (omega arith) k.1 r.1, λ i. LinkFact (h.0 i) (e i) (k.2 i))

matched_stays : (τ σ : Terms) (facts : List Fact) (n : ℕ) (atoms : List Atom) → SameBelow n τ σ → past_atoms atoms ≤ n → Matched facts σ atoms → Matched facts τ atoms
matched_stays τ σ facts n [] same low h a m = elim m [ ]
matched_stays τ σ facts n (b ∷ atoms) same low h a (here e) =
    let r = h b (here refl) in (r.0, r.1, subst (λ d. AtomIs τ d r.0) e (atom_stays τ σ n b r.0 same (omega arith) r.2))
matched_stays τ σ facts n (b ∷ atoms) same low h a (there m) = matched_stays τ σ facts n atoms same (omega arith) (λ d k. h d (there k)) a m

fact_in : (facts : List Fact) (f g : Fact) → f ≡ g → In g facts → In f facts
fact_in facts f g e m = subst (λ h. In h facts) (sym e) m

atoms_there : (σ : Terms) (facts : List Fact) (n : ℕ) (atoms : List Atom) → past_atoms atoms ≤ n → Matched facts σ atoms →
    (τ : Terms) × SameBelow n τ σ × ((a : Atom) → In a (apart_atoms n atoms) → In (fact τ a) facts)
atoms_there σ facts n [] low h = (σ, λ w l. refl, λ a m. elim m [ ])
atoms_there σ facts n (b ∷ atoms) low h =
    let m = h b (here refl) in
    let r = atom_there σ n b m.0 (omega arith) m.2 in
    let rest = matched_stays r.0 σ facts n atoms r.1 (omega arith) (λ d k. h d (there k)) in
    let k = atoms_there r.0 facts (n + blanks_in_atom b) atoms (omega arith) rest in
    let e : fact k.0 (apart_atom n b) ≡ m.0 = fact_stays k.0 r.0 n b k.1 (omega arith) ∙ r.2 in
    let first : In (fact k.0 (apart_atom n b)) facts = fact_in facts (fact k.0 (apart_atom n b)) m.0 e m.1 in
    (k.0, below_on n (n + blanks_in_atom b) k.0 r.0 σ (omega arith) k.1 r.1, λ a i. elim i [ here d ↦ subst (λ x. In (fact k.0 x) facts) d first | there j ↦ k.2 a j ])

match_there : (facts : List Fact) (q : Query) (tuple : List Term) (σ : Terms) → IsMatch facts q tuple σ → (τ : Terms) × Fits facts (apart q) tuple τ
match_there facts q tuple σ m =
    let n = first_free q in
    let r = head_there σ n q.head tuple (omega arith) m.head in
    let h = matched_stays r.0 σ facts n q.atoms r.1 (omega arith) m.atoms in
    let k = atoms_there r.0 facts (n + blanks_in_args q.head) q.atoms (omega arith) h in
    (k.0, record { atoms = k.2; head = values_stay k.0 r.0 n q.head k.1 (omega arith) ∙ r.2 })

pub maps_soundly : (facts : List Fact) (g s : Query) (tuple : List Term) → MapsInto g s → (σ : Terms) → IsMatch facts s tuple σ → (τ : Terms) × IsMatch facts g tuple τ
maps_soundly facts g s tuple m σ h =
    let r = match_there facts s tuple σ h in
    (through r.0 m.0, match_back facts g tuple (through r.0 m.0) (fits_through facts g s tuple r.0 m r.1))
