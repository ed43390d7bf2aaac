-- A tuple in the places of the head's variables: the matches that send the head to it.
use Rattle.std.proofs.Common.{◌≡◌, refl, sym, ◌∙◌, ap, subst, Bool, true, false, List, [], ◌∷◌, length, map, nat_eq, if◌then◌else◌}
use Rattle.std.proofs.lemmas.Bool.{eqb-true, eq-eqb}
use Rattle.std.proofs.lemmas.List.{length-map}
use Rattle.vocabulary.specs.declared.ids.VarId.{VarId}
use Rattle.vocabulary.specs.declared.term.Term.{Term}
use Rattle.vocabulary.specs.declared.term.Fact.{Fact}
use Rattle.vocabulary.specs.declared.term.Fact.TheVariants.{InClass as ClassFact, Linked as LinkFact}
use Rattle.vocabulary.specs.Lists.{In, Pairwise}
use Rattle.vocabulary.specs.Terms.{IsKnown}
use Rattle.mapping_facts.proofs.Members.{from_map}
use Rattle.queries.specs.declared.query.Arg.{Arg}
use Rattle.queries.specs.declared.query.Arg.TheVariants.{Blank, Var, Fixed}
use Rattle.queries.specs.declared.query.Atom.{Atom}
use Rattle.queries.specs.declared.query.Atom.TheVariants.{InClass, Linked}
use Rattle.queries.specs.declared.unify.Change.TheVariants.{Put}
use Rattle.queries.specs.declared.query.Query.{Query}
use Rattle.queries.specs.Changes.{changed, changed_atom, substituted}
use Rattle.queries.specs.Matches.{ArgIs, AtomIs, HeadIs, Matched, Terms}
use Rattle.queries.specs.Occurrences.{KnownArg, KnownAtom}
use Rattle.certain_semantics.specs.Certain.{TermsKnown}
use Rattle.perfect_rewriting.proofs.Sound.{before_change, changed_atom_is}
use Rattle.why_answers.specs.Asking.{put_term, put_tuple}

-- the same terms, where the variable has the term already
arg_on : (σ : Terms) (v : VarId) (t : Term) → σ v ≡ t → (x : Arg) (u : Term) → ArgIs σ x u → ArgIs σ (changed (Put v (Fixed t)) x) u
arg_on σ v t e Blank u i = tt
arg_on σ v t e (Fixed c) u i = i
arg_on σ v t e (Var w) u i = by (nat_eq w.0 v.0) refl
  where
    by : (b : Bool) → nat_eq w.0 v.0 ≡ b → ArgIs σ (if b then Fixed t else Var w) u
    by true h = (let n = eqb-true w.0 v.0 h in let same : w ≡ v = (λ j. record { 0 = n j }) in sym e ∙ ap σ (sym same) ∙ i)
    by false h = i

atom_on : (σ : Terms) (v : VarId) (t : Term) → σ v ≡ t → (a : Atom) (f : Fact) → AtomIs σ a f → AtomIs σ (changed_atom (Put v (Fixed t)) a) f
atom_on σ v t e (InClass a x) (ClassFact b u) i = (i.0, arg_on σ v t e x u i.1)
atom_on σ v t e (InClass a x) (LinkFact q s u) i = absurd i
atom_on σ v t e (Linked p x y) (ClassFact b u) i = absurd i
atom_on σ v t e (Linked p x y) (LinkFact q s u) i = (i.0, arg_on σ v t e x s i.1, arg_on σ v t e y u i.2)

term_on : (facts : List Fact) (σ : Terms) (x : Arg) (t : Term) → ArgIs σ x t → (atoms : List Atom) → Matched facts σ atoms → Matched facts σ (put_term x t atoms)
term_on facts σ Blank t i atoms m = m
term_on facts σ (Fixed c) t i atoms m = m
term_on facts σ (Var v) t i atoms m = λ a j.
    (let o = from_map (changed_atom (Put v (Fixed t))) atoms j in
    let f = m o.0 o.1 in
    (f.0, f.1, subst (λ b. AtomIs σ b f.0) o.2 (atom_on σ v t i o.0 f.0 f.2)))

-- a match that sends the head to the tuple stays one
pub tuple_on : (facts : List Fact) (σ : Terms) (head : List Arg) (tuple : List Term) → HeadIs σ head tuple → (atoms : List Atom) → Matched facts σ atoms → Matched facts σ (put_tuple head tuple atoms)
tuple_on facts σ [] ts h atoms m = m
tuple_on facts σ (x ∷ xs) [] h atoms m = m
tuple_on facts σ (x ∷ xs) (t ∷ ts) h atoms m = tuple_on facts σ xs ts h.1 (put_term x t atoms) (term_on facts σ x t h.0 atoms m)

-- terms before a term was put in place of a variable
put_back : (v : VarId) (t : Term) (σ : Terms) → before_change (Put v (Fixed t)) σ v ≡ t
put_back v t σ = rw (eq-eqb v.0 v.0 refl) refl

pairs_back : (v : VarId) (t : Term) (σ : Terms) (atoms : List Atom) (facts : List Fact) → Pairwise (AtomIs σ) (map (changed_atom (Put v (Fixed t))) atoms) facts → Pairwise (AtomIs (before_change (Put v (Fixed t)) σ)) atoms facts
pairs_back v t σ [] [] p = tt
pairs_back v t σ [] (f ∷ fs) p = absurd p
pairs_back v t σ (a ∷ atoms) [] p = absurd p
pairs_back v t σ (a ∷ atoms) (f ∷ fs) p = (changed_atom_is σ (Put v (Fixed t)) tt a f p.0, pairs_back v t σ atoms fs p.1)

-- the head goes where it went, if some terms send the variable and the head there
head_back : (one : Terms) (v : VarId) (t : Term) → one v ≡ t → (σ : Terms) (head : List Arg) (tuple : List Term) → HeadIs one head tuple → HeadIs σ head tuple → HeadIs (before_change (Put v (Fixed t)) σ) head tuple
head_back one v t e σ [] [] h k = tt
head_back one v t e σ [] (u ∷ us) h k = absurd h
head_back one v t e σ (x ∷ xs) [] h k = absurd h
head_back one v t e σ (Blank ∷ xs) (u ∷ us) h k = (tt, head_back one v t e σ xs us h.1 k.1)
head_back one v t e σ (Fixed c ∷ xs) (u ∷ us) h k = (k.0, head_back one v t e σ xs us h.1 k.1)
head_back one v t e σ (Var w ∷ xs) (u ∷ us) h k = (by (nat_eq w.0 v.0) refl, head_back one v t e σ xs us h.1 k.1)
  where
    by : (b : Bool) → nat_eq w.0 v.0 ≡ b → (if b then t else σ w) ≡ u
    by true n = (let same : w ≡ v = (let m = eqb-true w.0 v.0 n in λ j. record { 0 = m j }) in sym e ∙ ap one (sym same) ∙ h.0)
    by false n = k.0

-- what reads the atoms with the tuple in them reads the query, and sends its head to the tuple
pub tuple_back : (one : Terms) (head : List Arg) (tuple : List Term) → HeadIs one head tuple → (atoms : List Atom) (facts : List Fact) (σ : Terms) → Pairwise (AtomIs σ) (put_tuple head tuple atoms) facts →
    (σ' : Terms) × Pairwise (AtomIs σ') atoms facts × HeadIs σ' head tuple
tuple_back one [] [] h atoms facts σ p = (σ, p, tt)
tuple_back one [] (t ∷ ts) h atoms facts σ p = absurd h
tuple_back one (x ∷ xs) [] h atoms facts σ p = absurd h
tuple_back one (Blank ∷ xs) (t ∷ ts) h atoms facts σ p = let r = tuple_back one xs ts h.1 atoms facts σ p in (r.0, r.1, (tt, r.2))
tuple_back one (Fixed c ∷ xs) (t ∷ ts) h atoms facts σ p = let r = tuple_back one xs ts h.1 atoms facts σ p in (r.0, r.1, (h.0, r.2))
tuple_back one (Var v ∷ xs) (t ∷ ts) h atoms facts σ p =
    let r = tuple_back one xs ts h.1 (put_term (Var v) t atoms) facts σ p in
    (before_change (Put v (Fixed t)) r.0, pairs_back v t r.0 atoms facts r.1, (put_back v t r.0, head_back one v t h.0 r.0 xs ts h.1 r.2))

arg_known : (v : VarId) (t : Term) → IsKnown t → (x : Arg) → KnownArg x → KnownArg (changed (Put v (Fixed t)) x)
arg_known v t k Blank a = tt
arg_known v t k (Fixed c) a = a
arg_known v t k (Var w) a = elim (nat_eq w.0 v.0) as (λ b. KnownArg (if b then Fixed t else Var w)) [ true ↦ k | false ↦ tt ]

atom_known : (v : VarId) (t : Term) → IsKnown t → (a : Atom) → KnownAtom a → KnownAtom (changed_atom (Put v (Fixed t)) a)
atom_known v t k (InClass a x) h = arg_known v t k x h
atom_known v t k (Linked p x y) h = (arg_known v t k x h.0, arg_known v t k y h.1)

-- constants stay known
pub tuple_known : (head : List Arg) (tuple : List Term) → TermsKnown tuple → (atoms : List Atom) → ((a : Atom) → In a atoms → KnownAtom a) → (a : Atom) → In a (put_tuple head tuple atoms) → KnownAtom a
tuple_known [] ts k atoms all = all
tuple_known (x ∷ xs) [] k atoms all = all
tuple_known (Blank ∷ xs) (t ∷ ts) k atoms all = tuple_known xs ts k.1 atoms all
tuple_known (Fixed c ∷ xs) (t ∷ ts) k atoms all = tuple_known xs ts k.1 atoms all
tuple_known (Var v ∷ xs) (t ∷ ts) k atoms all =
    tuple_known xs ts k.1 (put_term (Var v) t atoms) (λ a i. (let o = from_map (changed_atom (Put v (Fixed t))) atoms i in subst KnownAtom o.2 (atom_known v t k.0 o.0 (all o.0 o.1))))

-- and as many atoms
pub tuple_length : (head : List Arg) (tuple : List Term) (atoms : List Atom) → length (put_tuple head tuple atoms) ≡ length atoms
tuple_length [] ts atoms = refl
tuple_length (x ∷ xs) [] atoms = refl
tuple_length (Blank ∷ xs) (t ∷ ts) atoms = tuple_length xs ts atoms
tuple_length (Fixed c ∷ xs) (t ∷ ts) atoms = tuple_length xs ts atoms
tuple_length (Var v ∷ xs) (t ∷ ts) atoms = tuple_length xs ts (put_term (Var v) t atoms) ∙ length-map atoms (changed_atom (Put v (Fixed t)))

-- the query with the term in each place of the variable
pub substituted_term : (q r : Query) (x : Arg) (v : VarId) (t u : Term) → x ≡ Var v → t ≡ u → r ≡ substituted v (Fixed t) q → r.atoms ≡ put_term x u q.atoms
substituted_term q r x v t u is same e = ap (λ z. z.atoms) e ∙ ap (λ z. map (changed_atom (Put v (Fixed z))) q.atoms) same ∙ ap (λ y. put_term y u q.atoms) (sym is)
