-- A query whose variables are taken for objects: where its answer over its own atoms is one of another, a member of the other's reach maps into it.
use Rattle.std.proofs.Common.{◌≡◌, refl, sym, ◌∙◌, ap, subst, ◌≤◌, ◌+◌, ◌-◌, ℕ, zero, suc, List, [], ◌∷◌, map, length, arith, nat_lt, if◌then◌else◌}
use Rattle.std.proofs.lemmas.Bool.{lt-ltb, le-ltb}
use Rattle.vocabulary.specs.declared.ids.VarId.{VarId}
use Rattle.vocabulary.specs.declared.term.Term.{Term, New', Named, Value}
use Rattle.vocabulary.specs.declared.term.Fact.{Fact}
use Rattle.vocabulary.specs.declared.term.Fact.TheVariants.{InClass as ClassFact, Linked as LinkFact}
use Rattle.vocabulary.specs.Lists.{In, here, there}
use Rattle.vocabulary.specs.Terms.{IsKnown, IsKnownFact}
use Rattle.dllite_axioms.specs.declared.axioms.Axiom.{Axiom}
use Rattle.dllite_axioms.specs.Chase.{AreKnown}
use Rattle.queries.specs.declared.query.Arg.{Arg}
use Rattle.queries.specs.declared.query.Arg.TheVariants.{Blank, Var, Fixed}
use Rattle.queries.specs.declared.query.Atom.{Atom}
use Rattle.queries.specs.declared.query.Atom.TheVariants.{InClass, Linked}
use Rattle.queries.specs.declared.query.Query.{Query}
use Rattle.queries.specs.Matches.{Terms, ArgIs, AtomIs, HeadIs, IsMatch, Matched}
use Rattle.queries.specs.Occurrences.{HeadStands, KnownArg, KnownAtom, KnownConstants}
use Rattle.certain_semantics.specs.Certain.{IsCertain, TermsKnown}
use Rattle.query_subsumption.specs.Laws.{MappingIsSound}
use Rattle.query_subsumption.specs.Subsumption.{apart, apart_arg, apart_args, apart_atom, apart_atoms, arg_image, atom_image, blanks_in_arg, blanks_in_args, blanks_in_atom, first_free, MapsInto, Replacement}

abbrev zeros : ℕ → List ℕ
zeros zero = []
zeros (suc n) = 0 ∷ zeros n

length_zeros : (n : ℕ) → length (zeros n) ≡ n
length_zeros zero = refl
length_zeros (suc n) = ap suc (length_zeros n)

-- an object for each variable, with a name that is as long as this number at least
abbrev object : ℕ → VarId → Term
object n v = Named (zeros (n + v.0))

abbrev freeze : ℕ → Arg → Term
freeze n Blank = Named []
freeze n (Var v) = object n v
freeze n (Fixed t) = t

abbrev freeze_atom : ℕ → Atom → Fact
freeze_atom n (InClass c x) = ClassFact c (freeze n x)
freeze_atom n (Linked p x y) = LinkFact p (freeze n x) (freeze n y)

-- and back
abbrev thaw : ℕ → Term → Arg
thaw n (Named text) = if nat_lt (length text) n then Fixed (Named text) else Var (record { 0 = length text - n })
thaw n (Value k text) = Fixed (Value k text)
thaw n (New' p d s r) = Fixed (New' p d s r)

abbrev thaw_fact : ℕ → Fact → Atom
thaw_fact n (ClassFact c t) = InClass c (thaw n t)
thaw_fact n (LinkFact p s t) = Linked p (thaw n s) (thaw n t)

-- more than the length of a constant's name
abbrev weight : Arg → ℕ
weight Blank = 0
weight (Var v) = 0
weight (Fixed (Named text)) = suc (length text)
weight (Fixed (Value k text)) = 0
weight (Fixed (New' p d s r)) = 0

abbrev atom_weight : Atom → ℕ
atom_weight (InClass c x) = weight x
atom_weight (Linked p x y) = weight x + weight y

abbrev args_weight : List Arg → ℕ
args_weight [] = 0
args_weight (x ∷ xs) = weight x + args_weight xs

abbrev atoms_weight : List Atom → ℕ
atoms_weight [] = 0
atoms_weight (a ∷ atoms) = atom_weight a + atoms_weight atoms

abbrev pub query_weight : Query → ℕ
query_weight q = args_weight q.head + atoms_weight q.atoms

thaw_object : (n : ℕ) (v : VarId) → thaw n (object n v) ≡ Var v
thaw_object n v =
    let long : length (zeros (n + v.0)) ≡ n + v.0 = length_zeros (n + v.0) in
    let back : length (zeros (n + v.0)) - n ≡ v.0 = omega (arith, long) in
    ap (λ b. if b then Fixed (object n v) else Var (record { 0 = length (zeros (n + v.0)) - n })) (le-ltb (length (zeros (n + v.0))) n (omega (arith, long))) ∙ (λ i. Var (record { 0 = back i }))

thaw_fixed : (n : ℕ) (t : Term) → weight (Fixed t) ≤ n → thaw n t ≡ Fixed t
thaw_fixed n (Named text) w = ap (λ b. if b then Fixed (Named text) else Var (record { 0 = length text - n })) (lt-ltb (length text) n (omega (arith, w)))
thaw_fixed n (Value k text) w = refl
thaw_fixed n (New' p d s r) w = refl

thawed : (n k : ℕ) (x : Arg) → weight x ≤ n → thaw n (freeze n (apart_arg k x)) ≡ apart_arg k x
thawed n k Blank w = thaw_object n (record { 0 = k })
thawed n k (Var v) w = thaw_object n v
thawed n k (Fixed t) w = thaw_fixed n t w

thawed_atom : (n k : ℕ) (a : Atom) → atom_weight a ≤ n → thaw_fact n (freeze_atom n (apart_atom k a)) ≡ apart_atom k a
thawed_atom n k (InClass c x) w = ap (InClass c) (thawed n k x w)
thawed_atom n k (Linked p x y) w =
    let one = thawed n k x (omega (arith, w)) in
    let two = thawed n (k + blanks_in_arg x) y (omega (arith, w)) in
    λ i. Linked p (one i) (two i)

thawed_args : (n k : ℕ) (xs : List Arg) → args_weight xs ≤ n → map (thaw n) (map (freeze n) (apart_args k xs)) ≡ apart_args k xs
thawed_args n k [] w = refl
thawed_args n k (x ∷ xs) w =
    let one = thawed n k x (omega (arith, w)) in
    let rest = thawed_args n (k + blanks_in_arg x) xs (omega (arith, w)) in
    λ i. one i ∷ rest i

-- each fact of a frozen query is an atom of it
atom_back : (n k : ℕ) (atoms : List Atom) → atoms_weight atoms ≤ n → (f : Fact) → In f (map (freeze_atom n) (apart_atoms k atoms)) → In (thaw_fact n f) (apart_atoms k atoms)
atom_back n k [] w f m = elim m [ ]
atom_back n k (a ∷ atoms) w f (here e) = here (sym (thawed_atom n k a (omega (arith, w))) ∙ ap (thaw_fact n) e)
atom_back n k (a ∷ atoms) w f (there m) = there (atom_back n (k + blanks_in_atom a) atoms (omega (arith, w)) f m)

-- the query's atoms and head over them
abbrev pub frozen : ℕ → Query → List Fact
frozen n q = map (freeze_atom n) (apart q).atoms

abbrev pub frozen_head : ℕ → Query → List Term
frozen_head n q = map (freeze n) (apart q).head

arg_is : (n k : ℕ) (x : Arg) → ArgIs (object n) x (freeze n (apart_arg k x))
arg_is n k Blank = tt
arg_is n k (Var v) = refl
arg_is n k (Fixed t) = refl

head_is : (n k : ℕ) (xs : List Arg) → HeadIs (object n) xs (map (freeze n) (apart_args k xs))
head_is n k [] = tt
head_is n k (x ∷ xs) = (arg_is n k x, head_is n (k + blanks_in_arg x) xs)

atom_is : (n k : ℕ) (a : Atom) → AtomIs (object n) a (freeze_atom n (apart_atom k a))
atom_is n k (InClass c x) = (refl, arg_is n k x)
atom_is n k (Linked p x y) = (refl, arg_is n k x, arg_is n (k + blanks_in_arg x) y)

atoms_are : (n k : ℕ) (atoms : List Atom) → Matched (map (freeze_atom n) (apart_atoms k atoms)) (object n) atoms
atoms_are n k [] a m = elim m [ ]
atoms_are n k (b ∷ atoms) a (here e) = (freeze_atom n (apart_atom k b), here refl, subst (λ z. AtomIs (object n) z (freeze_atom n (apart_atom k b))) e (atom_is n k b))
atoms_are n k (b ∷ atoms) a (there m) = let r = atoms_are n (k + blanks_in_atom b) atoms a m in (r.0, there r.1, r.2)

-- all known
known_arg : (n k : ℕ) (x : Arg) → KnownArg x → IsKnown (freeze n (apart_arg k x))
known_arg n k Blank h = tt
known_arg n k (Var v) h = tt
known_arg n k (Fixed t) h = h

known_atom : (n k : ℕ) (a : Atom) → KnownAtom a → IsKnownFact (freeze_atom n (apart_atom k a))
known_atom n k (InClass c x) h = known_arg n k x h
known_atom n k (Linked p x y) h = (known_arg n k x h.0, known_arg n (k + blanks_in_arg x) y h.1)

known_atoms : (n k : ℕ) (atoms : List Atom) → ((a : Atom) → In a atoms → KnownAtom a) → AreKnown (map (freeze_atom n) (apart_atoms k atoms))
known_atoms n k [] h f m = elim m [ ]
known_atoms n k (a ∷ atoms) h f (here e) = subst IsKnownFact e (known_atom n k a (h a (here refl)))
known_atoms n k (a ∷ atoms) h f (there m) = known_atoms n (k + blanks_in_atom a) atoms (λ b i. h b (there i)) f m

known_head : (n k : ℕ) (xs : List Arg) → ((x : Arg) → In x xs → KnownArg x) → TermsKnown (map (freeze n) (apart_args k xs))
known_head n k [] h = tt
known_head n k (x ∷ xs) h = (known_arg n k x (h x (here refl)), known_head n (k + blanks_in_arg x) xs (λ y i. h y (there i)))

pub frozen_known : (n : ℕ) (q : Query) → KnownConstants q → AreKnown (frozen n q)
frozen_known n q known = known_atoms n (first_free q + blanks_in_args q.head) q.atoms known

pub frozen_certain : (n : ℕ) (axioms : List Axiom) (q : Query) → HeadStands q → IsCertain axioms (frozen n q) q (frozen_head n q)
frozen_certain n axioms q stands = record {
  known = known_head n (first_free q) q.head (λ x m. (stands x m).0);
  round = 0;
  terms = object n;
  matched = record { atoms = atoms_are n (first_free q + blanks_in_args q.head) q.atoms; head = head_is n (first_free q) q.head };
}

-- what is read apart stays so
apart_once : (n k : ℕ) (x : Arg) → apart_arg n (apart_arg k x) ≡ apart_arg k x
apart_once n k Blank = refl
apart_once n k (Var v) = refl
apart_once n k (Fixed t) = refl

args_once : (n k : ℕ) (xs : List Arg) → apart_args n (apart_args k xs) ≡ apart_args k xs
args_once n k [] = refl
args_once n k (x ∷ xs) =
    let one = apart_once n k x in
    let rest = args_once (n + blanks_in_arg (apart_arg k x)) (k + blanks_in_arg x) xs in
    λ i. one i ∷ rest i

atom_once : (n k : ℕ) (a : Atom) → apart_atom n (apart_atom k a) ≡ apart_atom k a
atom_once n k (InClass c x) = ap (InClass c) (apart_once n k x)
atom_once n k (Linked p x y) =
    let one = apart_once n k x in
    let two = apart_once (n + blanks_in_arg (apart_arg k x)) (k + blanks_in_arg x) y in
    λ i. Linked p (one i) (two i)

atoms_once : (n k : ℕ) (atoms : List Atom) → apart_atoms n (apart_atoms k atoms) ≡ apart_atoms k atoms
atoms_once n k [] = refl
atoms_once n k (a ∷ atoms) =
    let one = atom_once n k a in
    let rest = atoms_once (n + blanks_in_atom (apart_atom k a)) (k + blanks_in_atom a) atoms in
    λ i. one i ∷ rest i

same_arg : (x : Arg) → arg_image Var x ≡ x
same_arg Blank = refl
same_arg (Var v) = refl
same_arg (Fixed t) = refl

same_args : (xs : List Arg) → map (arg_image Var) xs ≡ xs
same_args [] = refl
same_args (x ∷ xs) = λ i. same_arg x i ∷ same_args xs i

same_atom : (a : Atom) → a ≡ atom_image Var a
same_atom (InClass c x) = λ i. InClass c (sym (same_arg x) i)
same_atom (Linked p x y) = λ i. Linked p (sym (same_arg x) i) (sym (same_arg y) i)

apart_maps : (q : Query) → MapsInto (apart q) q
apart_maps q =
    let heads = args_once (first_free (apart q)) (first_free q) q.head in
    let atoms = atoms_once (first_free (apart q) + blanks_in_args (apart q).head) (first_free q + blanks_in_args q.head) q.atoms in (
      Var,
      record {
        heads = same_args (apart (apart q)).head ∙ heads;
        atoms = λ a m. subst (In (atom_image Var a)) atoms (subst (λ z. In z (apart (apart q)).atoms) (same_atom a) m);
      },
    )

-- a match in the frozen atoms is a mapping
module _ (n : ℕ) (τ : Terms) where
  abbrev to : Replacement
  to v = thaw n (τ v)

  arg_to : (k : ℕ) (x : Arg) (t : Term) → weight x ≤ n → ArgIs τ (apart_arg k x) t → arg_image to (apart_arg k x) ≡ thaw n t
  arg_to k Blank t w i = ap (thaw n) i
  arg_to k (Var v) t w i = ap (thaw n) i
  arg_to k (Fixed u) t w i = sym (thaw_fixed n u w) ∙ ap (thaw n) i

  atom_to : (k : ℕ) (a : Atom) (f : Fact) → atom_weight a ≤ n → AtomIs τ (apart_atom k a) f → thaw_fact n f ≡ atom_image to (apart_atom k a)
  atom_to k (InClass c x) (ClassFact d t) w i = let e = arg_to k x t w i.1 in λ j. InClass (sym i.0 j) (sym e j)
  atom_to k (InClass c x) (LinkFact q s t) w i = absurd i
  atom_to k (Linked p x y) (ClassFact d t) w i = absurd i
  atom_to k (Linked p x y) (LinkFact q s t) w i =
      let e = arg_to k x s (omega (arith, w)) i.1 in
      let e' = arg_to (k + blanks_in_arg x) y t (omega (arith, w)) i.2 in
      λ j. Linked (sym i.0 j) (sym e j) (sym e' j)

  head_to : (k : ℕ) (xs : List Arg) (ts : List Term) → args_weight xs ≤ n → HeadIs τ (apart_args k xs) ts → map (arg_image to) (apart_args k xs) ≡ map (thaw n) ts
  head_to k [] [] w i = refl
  head_to k [] (t ∷ ts) w i = absurd i
  head_to k (x ∷ xs) [] w i = absurd i
  head_to k (x ∷ xs) (t ∷ ts) w i =
      let e = arg_to k x t (omega (arith, w)) i.0 in
      let rest = head_to (k + blanks_in_arg x) xs ts (omega (arith, w)) i.1 in
      λ j. e j ∷ rest j

  atoms_to : (k : ℕ) (atoms : List Atom) → atoms_weight atoms ≤ n → (facts : List Fact) → Matched facts τ (apart_atoms k atoms) → (a : Atom) → In a (apart_atoms k atoms) → (f : Fact) × In f facts × (thaw_fact n f ≡ atom_image to a)
  atoms_to k [] w facts all a m = elim m [ ]
  atoms_to k (b ∷ atoms) w facts all a (here e) =
      let h = all (apart_atom k b) (here refl) in
      (h.0, h.1, atom_to k b h.0 (omega (arith, w)) h.2 ∙ ap (atom_image to) e)
  atoms_to k (b ∷ atoms) w facts all a (there m) = atoms_to (k + blanks_in_atom b) atoms (omega (arith, w)) facts (λ c i. all c (there i)) a m

pub frozen_maps : MappingIsSound → (n : ℕ) (g q : Query) → query_weight g ≤ n → query_weight q ≤ n → (σ : Terms) → IsMatch (frozen n q) g (frozen_head n q) σ → MapsInto g q
frozen_maps sound n g q w w' σ matched =
    let m = sound (frozen n q) (apart g) g (frozen_head n q) (apart_maps g) σ matched in
    let heads = head_to n m.0 (first_free g) g.head (frozen_head n q) (omega (arith, w)) m.1.head in
    let back = thawed_args n (first_free q) q.head (omega (arith, w')) in (
      to n m.0,
      record {
        heads = heads ∙ back;
        atoms = λ a i. (
            let h = atoms_to n m.0 (first_free g + blanks_in_args g.head) g.atoms (omega (arith, w)) (frozen n q) m.1.atoms a i in
            subst (λ z. In z (apart q).atoms) h.2 (atom_back n (first_free q + blanks_in_args q.head) q.atoms (omega (arith, w')) h.0 h.1));
      },
    )
