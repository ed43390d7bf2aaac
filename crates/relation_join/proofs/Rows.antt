-- Rows that agree, and the tuples of their pairs.
use Rattle.std.proofs.Common.{◌≡◌, refl, sym, ◌∙◌, ap, subst, List, [], ◌∷◌, ◌++◌, map, Option, Some, None, ◌↔◌, ◌⊎◌, inl, inr}
use Rattle.vocabulary.specs.declared.ids.VarId.{VarId}
use Rattle.vocabulary.specs.declared.term.Term.{Term}
use Rattle.vocabulary.specs.Lists.{In, here, there}
use Rattle.vocabulary.proofs.Lists.{In-append_cases, In-append_left, In-append_right}
use Rattle.queries.specs.declared.query.Arg.{Arg}
use Rattle.queries.specs.declared.query.Arg.TheVariants.{Blank, Var, Fixed}
use Rattle.queries.specs.Matches.{ArgIs, HeadIs, Terms}
use Rattle.relation_join.specs.Joins.{AgreeAt, AreOf, Gains, IsOf, IsPair, IsRow, value_in}
use Rattle.relation_join.proofs.Values.{row_some, row_told}

-- terms that give both rows
abbrev pub GivesBoth : List VarId → List VarId → List Term → List Term → Type 0
GivesBoth vars more row other = (σ : Terms) × (map σ vars ≡ row) × (map σ more ≡ other)

map_same : (σ τ : Terms) (vars : List VarId) → ((v : VarId) → In v vars → σ v ≡ τ v) → map σ vars ≡ map τ vars
map_same σ τ [] h = refl
map_same σ τ (v ∷ vars) h = let a = h v (here refl) in let b = map_same σ τ vars (λ w i. h w (there i)) in (ap (λ z. z ∷ map σ vars) a ∙ ap (λ z. τ v ∷ z) b)

abbrev pub term_or : Option Term → Term → Term
term_or None t = t
term_or (Some u) t = u

or_cases : (o : Option Term) (t u : Term) → ((w : Term) → o ≡ Some w → w ≡ u) → t ≡ u → term_or o t ≡ u
or_cases None t u h e = e
or_cases (Some w) t u h e = h w refl

module _ (vars more : List VarId) (row other : List Term) where
  both_agree : GivesBoth vars more row other → (v : VarId) → AgreeAt vars more row other v
  both_agree g v t u h k = sym (row_some g.0 vars row v t g.1 h).1 ∙ (row_some g.0 more other v u g.2 k).1

  agree_both : IsRow vars row → IsRow more other → ((v : VarId) → In v more → AgreeAt vars more row other v) → GivesBoth vars more row other
  agree_both r s h = (
    merged,
    map_same merged r.0 vars (λ v i. ap (λ o. term_or o (s.0 v)) (row_told r.0 vars row v r.1 i)) ∙ r.1,
    map_same merged s.0 more (λ v i. or_cases (value_in vars row v) (s.0 v) (s.0 v) (λ w e. h v i w (s.0 v) e (row_told s.0 more other v s.1 i)) refl) ∙ s.1,
  )
    where
      merged : Terms
      merged v = term_or (value_in vars row v) (s.0 v)

  pub agreement : IsRow vars row → IsRow more other → ((v : VarId) → In v more → AgreeAt vars more row other v) ↔ GivesBoth vars more row other
  agreement r s = (agree_both r s, λ g v i. both_agree g v)

-- a head has one tuple under some terms
one_arg : (vars : List VarId) (σ : Terms) (x : Arg) (t u : Term) → IsOf vars x → ArgIs σ x t → ArgIs σ x u → t ≡ u
one_arg vars σ Blank t u o h k = absurd o
one_arg vars σ (Var v) t u o h k = sym h ∙ k
one_arg vars σ (Fixed w) t u o h k = sym h ∙ k

pub one_head : (vars : List VarId) (σ : Terms) (head : List Arg) (ts us : List Term) → AreOf vars head → HeadIs σ head ts → HeadIs σ head us → ts ≡ us
one_head vars σ [] [] [] o h k = refl
one_head vars σ [] [] (u ∷ us) o h k = absurd k
one_head vars σ [] (t ∷ ts) us o h k = absurd h
one_head vars σ (x ∷ head) [] us o h k = absurd h
one_head vars σ (x ∷ head) (t ∷ ts) [] o h k = absurd k
one_head vars σ (x ∷ head) (t ∷ ts) (u ∷ us) o h k =
    let a = one_arg vars σ x t u (o x (here refl)) h.0 k.0 in
    let b = one_head vars σ head ts us (λ y i. o y (there i)) h.1 k.1 in
    (ap (λ z. z ∷ ts) a ∙ ap (λ z. u ∷ z) b)

last_cases : (old : List (List Term)) (us ts : List Term) → In ts (old ++ us ∷ []) → In ts old ⊎ (us ≡ ts)
last_cases old us ts i = elim (In-append_cases old (us ∷ []) i) [ inl m ↦ inl m | inr m ↦ inr (only m) ]
  where
    only : In ts (us ∷ []) → us ≡ ts
    only (here e) = e
    only (there k) = elim k [ ]

module _ (vars more : List VarId) (head : List Arg) (row other : List Term) (old : List (List Term)) where
  pub pair_gained : AreOf (vars ++ more) head → GivesBoth vars more row other → (us : List Term) → ((σ : Terms) → map σ vars ≡ row → map σ more ≡ other → HeadIs σ head us) →
      (new : List (List Term)) → new ≡ old ++ us ∷ [] → Gains (IsPair vars more head row other) old new
  pair_gained o g us is new e ts = (
    (λ i. elim (last_cases old us ts (subst (In ts) e i)) [ inl m ↦ inl m | inr q ↦ inr (g.0, g.1, g.2, subst (HeadIs g.0 head) q (is g.0 g.1 g.2)) ]),
    (λ k. subst (In ts) (sym e) (elim k [
      | inl m ↦ In-append_left (us ∷ []) m
      | inr p ↦ In-append_right old (here (one_head (vars ++ more) p.0 head us ts o (is p.0 p.1 p.2) p.3))
    ])),
  )

  pub none_gained : (GivesBoth vars more row other → ⊥) → (new : List (List Term)) → new ≡ old → Gains (IsPair vars more head row other) old new
  none_gained n new e ts = ((λ i. inl (subst (In ts) e i)), (λ k. subst (In ts) (sym e) (elim k [ inl m ↦ m | inr p ↦ absurd (n (p.0, p.1, p.2)) ])))
