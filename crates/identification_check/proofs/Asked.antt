-- The images of the query are the members with their values.
use Rattle.std.proofs.Common.{◌≡◌, refl, sym, ◌∙◌, ap, subst, ℕ, suc, ◌+◌, List, [], ◌∷◌, ◌++◌, length, get_or, arith}
use Rattle.vocabulary.specs.declared.ids.ClassId.{ClassId}
use Rattle.vocabulary.specs.declared.ids.LinkId.{LinkId}
use Rattle.vocabulary.specs.declared.term.Term.{Term}
use Rattle.vocabulary.specs.declared.term.Fact.{Fact}
use Rattle.vocabulary.specs.declared.term.Fact.TheVariants.{InClass, Linked}
use Rattle.vocabulary.specs.Lists.{In, here, there, Pairwise}
use Rattle.queries.specs.declared.query.Atom.{Atom}
use Rattle.queries.specs.declared.query.Atom.TheVariants.{InClass as ClassAtom, Linked as LinkAtom}
use Rattle.queries.specs.Matches.{ArgIs, AtomIs, Terms}
use Rattle.query_images.specs.Images.{IsImage}
use Rattle.identification_check.specs.Asking.{members_query, value_atoms, value_vars, var}
use Rattle.identification_check.specs.Members.{HasValues, IsMemberTuple}

abbrev at : Terms → ℕ → Term
at σ k = σ (record { 0 = k })

-- the terms of the variables
abbrev terms_from : Terms → ℕ → List LinkId → List Term
terms_from σ k [] = []
terms_from σ k (u ∷ us) = at σ k ∷ terms_from σ (k + 1) us

head_are : (σ : Terms) (k : ℕ) (us : List LinkId) (ts : List Term) → Pairwise (ArgIs σ) (value_vars k us ++ var 0 ∷ []) ts → ts ≡ terms_from σ k us ++ at σ 0 ∷ []
head_are σ k [] [] h = absurd h
head_are σ k [] (t ∷ []) h = ap (λ x. x ∷ []) (sym h.0)
head_are σ k [] (t ∷ u ∷ ts) h = absurd h.1
head_are σ k (u ∷ us) [] h = absurd h
head_are σ k (u ∷ us) (t ∷ ts) h = let first = h.0 in let rest = head_are σ (k + 1) us ts h.1 in λ i. sym first i ∷ rest i

are_head : (σ : Terms) (k : ℕ) (us : List LinkId) → Pairwise (ArgIs σ) (value_vars k us ++ var 0 ∷ []) (terms_from σ k us ++ at σ 0 ∷ [])
are_head σ k [] = (refl, tt)
are_head σ k (u ∷ us) = (refl, are_head σ (k + 1) us)

abbrev Joins : List Fact → Term → LinkId → Term → Type 0
Joins facts x u v = In (Linked u x v) facts

class_matched : (facts : List Fact) (σ : Terms) (a : ClassId) (f : Fact) → In f facts → AtomIs σ (ClassAtom a (var 0)) f → In (InClass a (at σ 0)) facts
class_matched facts σ a (InClass b t) i h = let e : InClass b t ≡ InClass a (at σ 0) = (λ j. InClass (sym h.0 j) (sym h.1 j)) in subst (λ g. In g facts) e i
class_matched facts σ a (Linked q s t) i h = absurd h

link_matched : (facts : List Fact) (σ : Terms) (u : LinkId) (k : ℕ) (f : Fact) → In f facts → AtomIs σ (LinkAtom u (var 0) (var k)) f → In (Linked u (at σ 0) (at σ k)) facts
link_matched facts σ u k (InClass b t) i h = absurd h
link_matched facts σ u k (Linked q s t) i h = let e : Linked q s t ≡ Linked u (at σ 0) (at σ k) = (λ j. Linked (sym h.0 j) (sym h.1 j) (sym h.2 j)) in subst (λ g. In g facts) e i

values_matched : (facts : List Fact) (σ : Terms) (k : ℕ) (us : List LinkId) → ((x : Atom) → In x (value_atoms k us) → (f : Fact) × In f facts × AtomIs σ x f) → Pairwise (Joins facts (at σ 0)) us (terms_from σ k us)
values_matched facts σ k [] m = tt
values_matched facts σ k (u ∷ us) m =
    let w = m (LinkAtom u (var 0) (var k)) (here refl) in
    (link_matched facts σ u k w.0 w.1 w.2, values_matched facts σ (k + 1) us (λ x i. m x (there i)))

pub image_member : (facts : List Fact) (a : ClassId) (us : List LinkId) (ts : List Term) → IsImage facts (members_query a us) ts → IsMemberTuple facts a us ts
unfolding IsImage
image_member facts a us ts h =
    let σ = h.0 in
    let w = h.1.atoms (ClassAtom a (var 0)) (here refl) in
    record {
      values = terms_from σ 1 us;
      member = at σ 0;
      are = head_are σ 1 us ts h.1.head;
      stand = record {
        is_member = class_matched facts σ a w.0 w.1 w.2;
        has_values = values_matched facts σ 1 us (λ x i. h.1.atoms x (there i));
      };
    }

-- the member at variable 0 and its values behind
abbrev terms_of : Term → List Term → Terms
terms_of x values v = get_or (x ∷ values) v.0 x

same_length : (R : LinkId → Term → Type 0) (us : List LinkId) (values : List Term) → Pairwise R us values → length values ≡ length us
same_length R [] [] h = refl
same_length R [] (v ∷ values) h = absurd h
same_length R (u ∷ us) [] h = absurd h
same_length R (u ∷ us) (v ∷ values) h = ap suc (same_length R us values h.1)

terms_are : (σ : Terms) (x : Term) (k : ℕ) (us : List LinkId) (values : List Term) → length values ≡ length us → ((i : ℕ) → at σ (k + i) ≡ get_or values i x) → terms_from σ k us ≡ values
terms_are σ x k [] [] long h = refl
terms_are σ x k [] (v ∷ values) long h = absurd (omega (arith, long))
terms_are σ x k (u ∷ us) [] long h = absurd (omega (arith, long))
terms_are σ x k (u ∷ us) (v ∷ values) long h =
    let first : at σ k ≡ v = (let same : k ≡ k + 0 = omega arith in ap (at σ) same ∙ h 0) in
    let shorter : length values ≡ length us = omega (arith, long) in
    let rest = terms_are σ x (k + 1) us values shorter (λ i. (let same : k + 1 + i ≡ k + suc i = omega arith in ap (at σ) same ∙ h (suc i))) in
    λ j. first j ∷ rest j

values_match : (facts : List Fact) (σ : Terms) (k : ℕ) (us : List LinkId) → Pairwise (Joins facts (at σ 0)) us (terms_from σ k us) → (x : Atom) → In x (value_atoms k us) → (f : Fact) × In f facts × AtomIs σ x f
values_match facts σ k [] p x i = elim i [ ]
values_match facts σ k (u ∷ us) p x (here e) = subst (λ y. (f : Fact) × In f facts × AtomIs σ y f) e (Linked u (at σ 0) (at σ k), p.0, (refl, refl, refl))
values_match facts σ k (u ∷ us) p x (there i) = values_match facts σ (k + 1) us p.1 x i

-- and the terms from it are these
values_are : (facts : List Fact) (us : List LinkId) (values : List Term) (x : Term) → Pairwise (Joins facts x) us values → terms_from (terms_of x values) 1 us ≡ values
values_are facts us values x h = terms_are (terms_of x values) x 1 us values (same_length (Joins facts x) us values h) (λ i. (let next : 1 + i ≡ suc i = omega arith in ap (λ n. get_or (x ∷ values) n x) next))

pub member_image : (facts : List Fact) (a : ClassId) (us : List LinkId) (values : List Term) (x : Term) → HasValues facts a us values x → IsImage facts (members_query a us) (values ++ x ∷ [])
unfolding IsImage
member_image facts a us values x h =
    (terms_of x values, record { atoms = match; head = subst (λ vs. Pairwise (ArgIs (terms_of x values)) (value_vars 1 us ++ var 0 ∷ []) (vs ++ x ∷ [])) same (are_head (terms_of x values) 1 us) })
  where
    same : terms_from (terms_of x values) 1 us ≡ values
    same = values_are facts us values x h.has_values

    match : (y : Atom) → In y (ClassAtom a (var 0) ∷ value_atoms 1 us) → (f : Fact) × In f facts × AtomIs (terms_of x values) y f
    match y (here e) = subst (λ z. (f : Fact) × In f facts × AtomIs (terms_of x values) z f) e (InClass a x, h.is_member, (refl, refl))
    match y (there i) = values_match facts (terms_of x values) 1 us (subst (Pairwise (Joins facts x) us) (sym same) h.has_values) y i

-- as many values as attributes
pub values_length : (facts : List Fact) (a : ClassId) (us : List LinkId) (values : List Term) (x : Term) → HasValues facts a us values x → length values ≡ length us
values_length facts a us values x h = same_length (Joins facts x) us values h.has_values
