-- The images of a query that is cut in two are the join of the images of its parts.
use Rattle.std.proofs.Common.{ℕ, zero, suc, arith, ◌≡◌, ◌≢◌, refl, sym, ◌∙◌, ap, subst, ◌+◌, ◌≤◌, List, [], ◌∷◌, ◌++◌, get_or, drop, map, ◌↔◌, ◌⊎◌, inl, inr}
use Rattle.std.proofs.lemmas.Bool.{eq-eqb}
use Rattle.vocabulary.specs.declared.ids.VarId.{VarId}
use Rattle.vocabulary.specs.declared.term.Term.{Term}
use Rattle.vocabulary.specs.declared.term.Fact.{Fact}
use Rattle.vocabulary.specs.declared.term.Fact.TheVariants.{InClass as ClassFact, Linked as LinkFact}
use Rattle.vocabulary.specs.Lists.{In, here, there}
use Rattle.vocabulary.proofs.Lists.{In-append_left, In-append_right}
use Rattle.queries.specs.declared.query.Arg.{Arg}
use Rattle.queries.specs.declared.query.Arg.TheVariants.{Blank, Var, Fixed}
use Rattle.queries.specs.declared.query.Atom.{Atom}
use Rattle.queries.specs.declared.query.Atom.TheVariants.{InClass, Linked}
use Rattle.queries.specs.declared.query.Query.{Query}
use Rattle.queries.specs.Matches.{ArgIs, AtomIs, HeadIs, IsMatch, Terms}
use Rattle.queries.specs.Occurrences.{HeadStands, KnownArg, atom_occurs, count, occurs}
use Rattle.relation_join.specs.Joins.{AreOf, AreRows, IsJoined, IsOf}
use Rattle.query_images.specs.Cuts.{IsCut}
use Rattle.query_images.specs.Images.{IsImage}

-- where a variable stands
one_of_two : (m n : ℕ) → 1 ≤ m + n → (1 ≤ m) ⊎ (1 ≤ n)
one_of_two zero n l = inr (omega (arith, l))
one_of_two (suc m) n l = inl (omega arith)

pub count_some : (v : VarId) (atoms : List Atom) → 1 ≤ count v atoms → (a : Atom) × In a atoms × (1 ≤ atom_occurs v a)
count_some v [] o = absurd (omega (arith, o))
count_some v (a ∷ atoms) o =
    elim (one_of_two (atom_occurs v a) (count v atoms) o) [
      | inl h ↦ (a, here refl, h)
      | inr h ↦ (let r = count_some v atoms h in (r.0, there r.1, r.2))
    ]

pub some_count : (v : VarId) (a : Atom) (atoms : List Atom) → In a atoms → 1 ≤ atom_occurs v a → 1 ≤ count v atoms
some_count v a [] m o = elim m [ ]
some_count v a (b ∷ atoms) (here e) o = omega (arith, o, ap (atom_occurs v) e)
some_count v a (b ∷ atoms) (there m) o = omega (arith, some_count v a atoms m o)

var_occurs : (v : VarId) → 1 ≤ occurs v (Var v)
var_occurs v = rw (eq-eqb v.0 v.0 refl) (omega arith)

-- what stands for a term under some terms does under others that are the same on its variables
arg_as : (σ τ : Terms) (x : Arg) (t : Term) → ((v : VarId) → 1 ≤ occurs v x → σ v ≡ τ v) → ArgIs σ x t → ArgIs τ x t
arg_as σ τ Blank t h is = is
arg_as σ τ (Var v) t h is = sym (h v (var_occurs v)) ∙ is
arg_as σ τ (Fixed u) t h is = is

pub atom_as : (σ τ : Terms) (a : Atom) (f : Fact) → ((v : VarId) → 1 ≤ atom_occurs v a → σ v ≡ τ v) → AtomIs σ a f → AtomIs τ a f
atom_as σ τ (InClass a x) (ClassFact b t) h is = (is.0, arg_as σ τ x t h is.1)
atom_as σ τ (InClass a x) (LinkFact q s t) h is = absurd is
atom_as σ τ (Linked p x y) (ClassFact b t) h is = absurd is
atom_as σ τ (Linked p x y) (LinkFact q s t) h is = (is.0, arg_as σ τ x s (λ v o. h v (omega (arith, o))) is.1, arg_as σ τ y t (λ v o. h v (omega (arith, o))) is.2)

head_arg_as : (σ τ : Terms) (x : Arg) (t : Term) → ((v : VarId) → x ≡ Var v → σ v ≡ τ v) → ArgIs σ x t → ArgIs τ x t
head_arg_as σ τ Blank t h is = is
head_arg_as σ τ (Var v) t h is = sym (h v refl) ∙ is
head_arg_as σ τ (Fixed u) t h is = is

head_as : (σ τ : Terms) (head : List Arg) (ts : List Term) → ((v : VarId) → In (Var v) head → σ v ≡ τ v) → HeadIs σ head ts → HeadIs τ head ts
head_as σ τ [] [] h is = is
head_as σ τ [] (t ∷ ts) h is = absurd is
head_as σ τ (x ∷ head) [] h is = absurd is
head_as σ τ (x ∷ head) (t ∷ ts) h is = (head_arg_as σ τ x t (λ v e. h v (here e)) is.0, head_as σ τ head ts (λ v i. h v (there i)) is.1)

-- the image of variables is their row
pub head_row : (σ : Terms) (vars : List VarId) (row : List Term) → HeadIs σ (map Var vars) row → map σ vars ≡ row
head_row σ [] [] h = refl
head_row σ [] (t ∷ row) h = absurd h
head_row σ (v ∷ vars) [] h = absurd h
head_row σ (v ∷ vars) (t ∷ row) h = let a = h.0 in let b = head_row σ vars row h.1 in (ap (λ z. z ∷ map σ vars) a ∙ ap (λ z. t ∷ z) b)

pub row_head : (σ : Terms) (vars : List VarId) → HeadIs σ (map Var vars) (map σ vars)
row_head σ [] = tt
row_head σ (v ∷ vars) = (refl, row_head σ vars)

pub same_at : (σ τ : Terms) (vars : List VarId) (v : VarId) → map σ vars ≡ map τ vars → In v vars → σ v ≡ τ v
same_at σ τ [] v e i = elim i [ ]
same_at σ τ (w ∷ vars) v e (here h) = subst (λ z. σ z ≡ τ z) h (ap (λ l. get_or l 0 (σ w)) e)
same_at σ τ (w ∷ vars) v e (there i) = same_at σ τ vars v (ap (drop 1) e) i

pub of_vars : (vars : List VarId) (x : Arg) → In x (map Var vars) → (v : VarId) × In v vars × (x ≡ Var v)
of_vars [] x i = elim i [ ]
of_vars (v ∷ vars) x (here e) = (v, here refl, sym e)
of_vars (v ∷ vars) x (there i) = let r = of_vars vars x i in (r.0, there r.1, r.2)

-- a term of the first where the variable stands there, else of the second, else of the third
pick : ℕ → ℕ → Term → Term → Term → Term
pick zero zero a b c = c
pick zero (suc n) a b c = b
pick (suc m) n a b c = a

pick_first : (m n : ℕ) (a b c : Term) → 1 ≤ m → pick m n a b c ≡ a
unfolding pick
pick_first zero n a b c l = absurd (omega (arith, l))
pick_first (suc m) n a b c l = refl

pick_second : (m n : ℕ) (a b c : Term) → 1 ≤ n → (1 ≤ m → a ≡ b) → pick m n a b c ≡ b
unfolding pick
pick_second zero zero a b c l h = absurd (omega (arith, l))
pick_second zero (suc n) a b c l h = refl
pick_second (suc m) n a b c l h = h (omega arith)

pick_third : (m n : ℕ) (a b c : Term) → (1 ≤ m → a ≡ c) → (1 ≤ n → b ≡ c) → pick m n a b c ≡ c
unfolding pick
pick_third zero zero a b c h k = refl
pick_third zero (suc n) a b c h k = k (omega arith)
pick_third (suc m) n a b c h k = h (omega arith)

module _ (facts : List Fact) (q one rest : Query) (vars more : List VarId) (cut : IsCut q one rest vars more) where
  module _ (σ ρ τ : Terms) (row : map ρ vars ≡ map σ vars) (other : map τ more ≡ map σ more) where
    merged : Terms
    merged v = pick (count v one.atoms) (count v rest.atoms) (ρ v) (τ v) (σ v)

    shared : (v : VarId) → 1 ≤ count v one.atoms → 1 ≤ count v rest.atoms → ρ v ≡ τ v
    shared v l k = same_at ρ σ vars v row ((cut.first v).1 (l, inl k)) ∙ sym (same_at τ σ more v other ((cut.second v).1 (k, inl l)))

    as_first : (v : VarId) → 1 ≤ count v one.atoms → ρ v ≡ merged v
    unfolding merged pick
    as_first v l = sym (pick_first (count v one.atoms) (count v rest.atoms) (ρ v) (τ v) (σ v) l)

    as_second : (v : VarId) → 1 ≤ count v rest.atoms → τ v ≡ merged v
    unfolding merged pick
    as_second v l = sym (pick_second (count v one.atoms) (count v rest.atoms) (ρ v) (τ v) (σ v) l (λ k. shared v k l))

    as_head : (v : VarId) → In (Var v) q.head → σ v ≡ merged v
    unfolding merged pick
    as_head v i = sym (pick_third (count v one.atoms) (count v rest.atoms) (ρ v) (τ v) (σ v)
        (λ l. same_at ρ σ vars v row ((cut.first v).1 (l, inr i)))
        (λ l. same_at τ σ more v other ((cut.second v).1 (l, inr i))))

    whole : (ts us ws : List Term) → IsMatch facts one us ρ → IsMatch facts rest ws τ → HeadIs σ q.head ts → IsMatch facts q ts merged
    whole ts us ws m n h = record {
      atoms = λ a i. elim ((cut.atoms a).0 i) [
        | inl k ↦ (let r = m.atoms a k in (r.0, r.1, atom_as ρ merged a r.0 (λ v o. as_first v (some_count v a one.atoms k o)) r.2))
        | inr k ↦ (let r = n.atoms a k in (r.0, r.1, atom_as τ merged a r.0 (λ v o. as_second v (some_count v a rest.atoms k o)) r.2))
      ];
      head = head_as σ merged q.head ts as_head h;
    }

  pub one_row : (row : List Term) (ρ : Terms) → IsMatch facts one row ρ → map ρ vars ≡ row
  one_row row ρ m = head_row ρ vars row (subst (λ head. HeadIs ρ head row) cut.first_head m.head)

  pub rest_row : (row : List Term) (τ : Terms) → IsMatch facts rest row τ → map τ more ≡ row
  rest_row row τ m = head_row τ more row (subst (λ head. HeadIs τ head row) cut.second_head m.head)

  one_match : (ts : List Term) (σ : Terms) → IsMatch facts q ts σ → IsMatch facts one (map σ vars) σ
  one_match ts σ m = record {
    atoms = λ a i. m.atoms a ((cut.atoms a).1 (inl i));
    head = subst (λ head. HeadIs σ head (map σ vars)) (sym cut.first_head) (row_head σ vars);
  }

  rest_match : (ts : List Term) (σ : Terms) → IsMatch facts q ts σ → IsMatch facts rest (map σ more) σ
  rest_match ts σ m = record {
    atoms = λ a i. m.atoms a ((cut.atoms a).1 (inr i));
    head = subst (λ head. HeadIs σ head (map σ more)) (sym cut.second_head) (row_head σ more);
  }

  module _ (rows others : List (List Term)) where
    pub are_rows : ((ts : List Term) → In ts rows ↔ IsImage facts one ts) → AreRows vars rows
    unfolding IsImage
    are_rows ones row i = let m = (ones row).0 i in (m.0, one_row row m.0 m.1)

    pub are_others : ((ts : List Term) → In ts others ↔ IsImage facts rest ts) → AreRows more others
    unfolding IsImage
    are_others rests row i = let m = (rests row).0 i in (m.0, rest_row row m.0 m.1)

    module _ (ones : (ts : List Term) → In ts rows ↔ IsImage facts one ts) (rests : (ts : List Term) → In ts others ↔ IsImage facts rest ts) (ts : List Term) where
      pub joined_image : IsJoined vars more q.head rows others ts → IsImage facts q ts
      unfolding IsImage
      joined_image (other, among, (row, within, (σ, is, at, head))) =
          let m = (ones row).0 within in
          let n = (rests other).0 among in
          (merged σ m.0 n.0 (one_row row m.0 m.1 ∙ sym is) (rest_row other n.0 n.1 ∙ sym at), whole σ m.0 n.0 (one_row row m.0 m.1 ∙ sym is) (rest_row other n.0 n.1 ∙ sym at) ts row other m.1 n.1 head)

      pub image_joined : IsImage facts q ts → IsJoined vars more q.head rows others ts
      unfolding IsImage
      image_joined (σ, m) = (map σ more, (rests (map σ more)).1 (σ, rest_match ts σ m), (map σ vars, (ones (map σ vars)).1 (σ, one_match ts σ m), (σ, refl, refl, m.head)))

  -- where the second part has no image, the whole has none
  pub nothing_joined : (others : List (List Term)) → ((ts : List Term) → In ts others ↔ IsImage facts rest ts) → others ≡ [] → (ts : List Term) → In ts [] ↔ IsImage facts q ts
  unfolding IsImage
  nothing_joined others rests e ts = ((λ i. elim i [ ]), (λ m. none (map m.0 more) (subst (In (map m.0 more)) e ((rests (map m.0 more)).1 (m.0, rest_match ts m.0 m.1)))))
    where
      none : (us : List Term) → In us [] → In ts []
      none us i = elim i [ ]

  -- what the whole's head needs, the heads of the parts have
  arg_of : (x : Arg) → In x q.head → KnownArg x × (x ≢ Blank) × ((v : VarId) → x ≡ Var v → 1 ≤ count v q.atoms) → IsOf (vars ++ more) x
  arg_of Blank i k = absurd (k.1 refl)
  arg_of (Var v) i k =
      let r = count_some v q.atoms (k.2 v refl) in
      elim ((cut.atoms r.0).0 r.1) [
        | inl m ↦ In-append_left more ((cut.first v).1 (some_count v r.0 one.atoms m r.2, inr i))
        | inr m ↦ In-append_right vars ((cut.second v).1 (some_count v r.0 rest.atoms m r.2, inr i))
      ]
  arg_of (Fixed t) i k = tt

  pub head_of_both : HeadStands q → AreOf (vars ++ more) q.head
  head_of_both h x i = arg_of x i (h x i)

  var_stands : (w : VarId) (x : Arg) (n : VarId → ℕ) → 1 ≤ n w → x ≡ Var w → KnownArg x × (x ≢ Blank) × ((v : VarId) → x ≡ Var v → 1 ≤ n v)
  var_stands w x n l e = (subst KnownArg (sym e) tt, (λ h. cc), (λ v h. subst (λ z. 1 ≤ n z) (var_same w v (sym e ∙ h)) l))
    where
      var_same : (w v : VarId) → Var w ≡ Var v → w ≡ v
      var_same w v e = cc

  pub one_stands : HeadStands one
  one_stands x i =
      let r = of_vars vars x (subst (In x) cut.first_head i) in
      var_stands r.0 x (λ v. count v one.atoms) ((cut.first r.0).0 r.1).0 r.2

  pub rest_stands : HeadStands rest
  rest_stands x i =
      let r = of_vars more x (subst (In x) cut.second_head i) in
      var_stands r.0 x (λ v. count v rest.atoms) ((cut.second r.0).0 r.1).0 r.2
