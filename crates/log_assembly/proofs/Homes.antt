-- The cases of an object, and what lists of values tell.
use Rattle.std.proofs.Common.{◌≡◌, ◌≢◌, refl, sym, ◌∙◌, ap, subst, ℕ, ◌==◌, Bool, true, false, cond, List, [], ◌∷◌, Some, None, filter, length, inl, inr, map, arith, ◌||◌}
use Rattle.std.specs.declared.cmp.Ordering.TheVariants.{Less, Equal}
use Rattle.std.specs.List.{flat_map, list_any}
use Rattle.std.proofs.lemmas.Cmp.{tied_itself}
use Rattle.std.proofs.lemmas.Map.Keys.{sorted_head}
use borrow.Author.Tests.{eqb-true}
use Rattle.vocabulary.specs.declared.term.Term.{Term, New', Named, Value}
use Rattle.vocabulary.specs.Lists.{In, here, there, IsListOf}
use Rattle.vocabulary.proofs.Lists.{In-append_left, In-append_right, In-append_cases, In-filter_map, from_filter_map}
use Rattle.queries.specs.Order.{term_cmp, tuple_cmp}
use Rattle.queries.proofs.Ordered.{tuples_ordered}
use Rattle.log_assembly.specs.Asked.{IsOne, HasNone, HasSeveral}
use Rattle.log_assembly.specs.Found.{begins, case_in, cases_at, run_of, stands_alone, values_at}
use Rattle.log_assembly.proofs.Sections.{begins_is, begins_itself, values_listed}

-- membership in what is made of each item
pub in_flat_map : {X Y : Type 0} (f : X → List Y) {x : X} {y : Y} (xs : List X) → In x xs → In y (f x) → In y (flat_map f xs)
in_flat_map f [] m h = elim m [ ]
in_flat_map f {y = y} (z ∷ xs) (here e) h = In-append_left (flat_map f xs) (subst (λ w. In y (f w)) (sym e) h)
in_flat_map f (z ∷ xs) (there m) h = In-append_right (f z) (in_flat_map f xs m h)

pub from_flat_map : {X Y : Type 0} (f : X → List Y) {y : Y} (xs : List X) → In y (flat_map f xs) → (x : X) × In x xs × In y (f x)
from_flat_map f [] m = elim m [ ]
from_flat_map f (z ∷ xs) m = elim (In-append_cases (f z) (flat_map f xs) m) [ inl h ↦ (z, here refl, h) | inr h ↦ (let r = from_flat_map f xs h in (r.0, there r.1, r.2)) ]

pub from_map : {X Y : Type 0} (f : X → Y) {y : Y} (xs : List X) → In y (map f xs) → (x : X) × In x xs × (f x ≡ y)
from_map f [] m = elim m [ ]
from_map f (z ∷ xs) (here e) = (z, here refl, e)
from_map f (z ∷ xs) (there m) = let r = from_map f xs m in (r.0, there r.1, r.2)

pub in_filter : {X : Type 0} (p : X → Bool) {x : X} (xs : List X) → In x xs → p x ≡ true → In x (filter p xs)
in_filter p [] m h = elim m [ ]
in_filter p (z ∷ xs) (here e) h = let k : p z ≡ true = ap p e ∙ h in rw k (here e)
in_filter p {x = x} (z ∷ xs) (there m) h = by (in_filter p xs m h) (p z)
  where
    by : In x (filter p xs) → (b : Bool) → In x (cond b (z ∷ filter p xs) (filter p xs))
    by rest true = there rest
    by rest false = rest

pub from_filter : {X : Type 0} (p : X → Bool) {x : X} (xs : List X) → In x (filter p xs) → In x xs × (p x ≡ true)
from_filter p [] m = elim m [ ]
from_filter p {x = x} (z ∷ xs) m = by (λ k. from_filter p xs k) (p z) refl m
  where
    by : (In x (filter p xs) → In x xs × (p x ≡ true)) → (b : Bool) → p z ≡ b → In x (cond b (z ∷ filter p xs) (filter p xs)) → In x (z ∷ xs) × (p x ≡ true)
    by rest true e (here k) = (here k, sym (ap p k) ∙ e)
    by rest true e (there m) = let r = rest m in (there r.0, r.1)
    by rest false e m = let r = rest m in (there r.0, r.1)

-- a test that an item of a list passes
pub list_any_in : {X : Type 0} (p : X → Bool) {x : X} (xs : List X) → In x xs → p x ≡ true → list_any p xs ≡ true
list_any_in p [] m h = elim m [ ]
list_any_in p (z ∷ xs) (here e) h = let k : p z ≡ true = ap p e ∙ h in rw k refl
list_any_in p (z ∷ xs) (there m) h = by (list_any_in p xs m h) (p z)
  where
    by : list_any p xs ≡ true → (b : Bool) → (b || list_any p xs) ≡ true
    by rest true = refl
    by rest false = rest

pub list_any_from : {X : Type 0} (p : X → Bool) (xs : List X) → list_any p xs ≡ true → (x : X) × In x xs × (p x ≡ true)
list_any_from p [] h = cc
list_any_from {X = X} p (z ∷ xs) h = by (λ k. list_any_from p xs k) (p z) refl h
  where
    by : (list_any p xs ≡ true → (x : X) × In x xs × (p x ≡ true)) → (b : Bool) → p z ≡ b → (b || list_any p xs) ≡ true → (x : X) × In x (z ∷ xs) × (p x ≡ true)
    by rest true e h = (z, here refl, e)
    by rest false e h = let r = rest h in (r.0, there r.1, r.2)

-- a tuple of one term that begins with it
lone_is : (t : Term) (x : List Term) → begins t x ≡ true → (length x == 1) ≡ true → x ≡ t ∷ []
lone_is t [] b l = cc
lone_is t (s ∷ []) b l = let first : s ≡ t = begins_is t s [] b in cc
lone_is t (s ∷ u ∷ us) b l = absurd (omega (arith, eqb-true (length (s ∷ u ∷ us)) 1 l))

alone_in : (tuples : List (List Term)) (t : Term) → stands_alone tuples t ≡ true → In (t ∷ []) tuples
alone_in tuples t h =
    let r = list_any_from (λ tuple. length tuple == 1) (run_of t tuples) h in
    let k = from_filter (begins t) tuples r.1 in
    subst (λ x. In x tuples) (lone_is t r.0 k.1 r.2) k.0

in_alone : (tuples : List (List Term)) (t : Term) → In (t ∷ []) tuples → stands_alone tuples t ≡ true
in_alone tuples t m = list_any_in (λ tuple. length tuple == 1) (run_of t tuples) (in_filter (begins t) tuples m (begins_itself t [])) refl

case_back : (cases : List (List Term)) (v : Term) (c : List ℕ) → case_in cases v ≡ Some c → (v ≡ Named c) × (stands_alone cases (Named c) ≡ true)
case_back cases (Named n) c e = by (stands_alone cases (Named n)) refl e
  where
    by : (b : Bool) → stands_alone cases (Named n) ≡ b → cond b (Some n) None ≡ Some c → (Named n ≡ Named c) × (stands_alone cases (Named c) ≡ true)
    by true k e = let same : n ≡ c = cc in (ap Named same, sym (ap (λ w. stands_alone cases (Named w)) same) ∙ k)
    by false k e = cc
case_back cases (Value k n) c e = cc
case_back cases (New' p d s r) c e = cc

module _ (P Q : List Term → Type 0) (cases pairs : List (List Term)) (cases_listed : IsListOf tuple_cmp P cases) (pairs_listed : IsListOf tuple_cmp Q pairs) (t : Term) where
  pub homes_to : (c : List ℕ) → In c (cases_at cases t pairs) → Q (t ∷ Named c ∷ []) × P (Named c ∷ [])
  homes_to c m =
      let r = from_filter_map (case_in cases) (values_at t pairs) m in
      let k = case_back cases r.0 c r.2 in
      (subst (λ v. Q (t ∷ v ∷ [])) k.0 ((values_listed t Q pairs pairs_listed).each r.0 r.1), cases_listed.each (Named c ∷ []) (alone_in cases (Named c) k.1))

  pub homes_from : (c : List ℕ) → Q (t ∷ Named c ∷ []) → P (Named c ∷ []) → In c (cases_at cases t pairs)
  homes_from c q p =
      let alone = in_alone cases (Named c) (cases_listed.all (Named c ∷ []) p) in
      In-filter_map (case_in cases) ((values_listed t Q pairs pairs_listed).all (Named c) q) (ap (λ b. cond b (Some c) None) alone)

-- what a list of values tells of how many there are
module _ (P : Term → Type 0) where
  pub none_of : IsListOf term_cmp P [] → HasNone P
  none_of l v p = elim (l.all v p) [ ]

  pub one_of : (v : Term) → IsListOf term_cmp P (v ∷ []) → IsOne P v
  one_of v l = (l.each v (here refl), λ y p. elim (l.all y p) [ here e ↦ sym e | there m ↦ elim m [ ] ])

  apart : (v w : Term) → term_cmp v w ≡ Less → v ≢ w
  apart v w less same =
      let level : term_cmp v v ≡ Equal = tied_itself tuples_ordered.terms v in
      let no : Equal ≡ Less = sym level ∙ ap (term_cmp v) same ∙ less in absurd cc

  pub several_of : (v w : Term) (vs : List Term) → IsListOf term_cmp P (v ∷ w ∷ vs) → HasSeveral P
  several_of v w vs l = (v, w, l.each v (here refl), l.each w (there (here refl)), apart v w (sorted_head term_cmp v (w ∷ vs) l.ordered).0)

  -- one value is not several
  pub not_several : (v : Term) → IsListOf term_cmp P (v ∷ []) → HasSeveral P → ⊥
  not_several v l s = let one = one_of v l in s.4 (one.1 s.0 s.2 ∙ sym (one.1 s.1 s.3))

  pub not_one : (v w : Term) (vs : List Term) → IsListOf term_cmp P (v ∷ w ∷ vs) → (u : Term) → IsOne P u → ⊥
  not_one v w vs l u one = let s = several_of v w vs l in s.4 (one.1 s.0 s.2 ∙ sym (one.1 s.1 s.3))
