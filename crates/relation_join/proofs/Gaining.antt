-- What is gained item by item.
use Rattle.std.proofs.Common.{ℕ, zero, suc, arith, ◌≡◌, refl, sym, ◌∙◌, ap, subst, ◌+◌, ◌<◌, ◌≤◌, List, [], ◌∷◌, ◌++◌, length, get_or, take, ◌↔◌, ◌⊎◌, inl, inr}
use Rattle.std.proofs.lemmas.List.{take_all, take_more}
use Rattle.vocabulary.specs.declared.term.Term.{Term}
use Rattle.vocabulary.specs.Lists.{In, here, there}
use Rattle.vocabulary.proofs.Lists.{In-append_left, In-append_right, In-append_cases}
use Rattle.vocabulary.proofs.Members.{In-from_Contains}
use Rattle.relation_join.specs.Joins.{Gains}

-- one item of a list further
module _ {X : Type 0} (list : List X) (i : ℕ) (x : X) (l : i < length list) (is : x ≡ get_or list i x) where
  pub more : take (i + 1) list ≡ take i list ++ x ∷ []
  more = take_more list i x l ∙ ap (λ z. take i list ++ z ∷ []) (sym is)

  pub latest : In x (take (i + 1) list)
  latest = subst (In x) (sym more) (In-append_right (take i list) (here refl))

  pub earlier_or_latest : (z : X) → In z (take (i + 1) list) → In z (take i list) ⊎ (x ≡ z)
  earlier_or_latest z k = elim (In-append_cases (take i list) (x ∷ []) (subst (In z) more k)) [ inl m ↦ inl m | inr m ↦ inr (only z m) ]
    where
      only : (z : X) → In z (x ∷ []) → x ≡ z
      only z (here e) = e
      only z (there k) = elim k [ ]

-- the tuple is of an item of the list
abbrev pub OfOne : {X : Type 0} → (X → List Term → Type 0) → List X → List Term → Type 0
OfOne {X} P list ts = (x : X) × In x list × P x ts

module _ {X : Type 0} (P : X → List Term → Type 0) (list : List X) where
  pub gains_none : (start : List (List Term)) → Gains (OfOne P (take 0 list)) start start
  gains_none start ts = ((λ k. inl k), (λ k. elim k [ inl s ↦ s | inr h ↦ elim h.1 [ ] ]))

  pub gains_all : (i : ℕ) (start new : List (List Term)) → length list ≤ i → Gains (OfOne P (take i list)) start new → Gains (OfOne P list) start new
  gains_all i start new l gains = subst (λ z. Gains (OfOne P z) start new) (take_all i list l) gains

  pub only_gained : (i : ℕ) (found : List (List Term)) → length list ≤ i → Gains (OfOne P (take i list)) [] found → (ts : List Term) → In ts found ↔ OfOne P list ts
  only_gained i found l gains ts =
      let g = gains_all i [] found l gains ts in
      ((λ k. elim (g.0 k) [ inl m ↦ elim m [ ] | inr p ↦ p ]), (λ p. g.1 (inr p)))

  module _ (i : ℕ) (x : X) (l : i < length list) (is : x ≡ get_or list i x) where
    pub gains_more : (start old new : List (List Term)) → Gains (OfOne P (take i list)) start old → Gains (P x) old new → Gains (OfOne P (take (i + 1) list)) start new
    gains_more start old new so_far gains ts = (
      (λ k. elim ((gains ts).0 k) [
        | inl m ↦ elim ((so_far ts).0 m) [
          | inl s ↦ inl s
          | inr h ↦ inr (h.0, subst (In h.0) (sym (more list i x l is)) (In-append_left (x ∷ []) h.1), h.2)
        ]
        | inr g ↦ inr (x, latest list i x l is, g)
      ]),
      (λ k. (gains ts).1 (elim k [
        | inl s ↦ inl ((so_far ts).1 (inl s))
        | inr h ↦ elim (earlier_or_latest list i x l is h.0 h.1) [
          | inl m ↦ inl ((so_far ts).1 (inr (h.0, m, h.2)))
          | inr e ↦ inr (subst (λ z. P z ts) (sym e) h.2)
        ]
      ])),
    )

-- an item by its place is a member
pub In-get_or : {X : Type 0} (list : List X) (i : ℕ) (x : X) → i < length list → x ≡ get_or list i x → In x list
In-get_or list i x l is = In-from_Contains list (i, l, sym is)

pub get_or_any : {X : Type 0} (list : List X) (i : ℕ) (d e : X) → i < length list → get_or list i d ≡ get_or list i e
get_or_any [] i d e l = absurd (omega (arith, l))
get_or_any (x ∷ list) zero d e l = refl
get_or_any (x ∷ list) (suc i) d e l = get_or_any list i d e (omega (arith, l))

-- what has the same tuples gains the same
pub gains_same : (P Q : List Term → Type 0) (old new : List (List Term)) → ((ts : List Term) → P ts ↔ Q ts) → Gains P old new → Gains Q old new
gains_same P Q old new same gains ts = (
  (λ k. elim ((gains ts).0 k) [ inl m ↦ inl m | inr p ↦ inr ((same ts).0 p) ]),
  (λ k. (gains ts).1 (elim k [ inl m ↦ inl m | inr q ↦ inr ((same ts).1 q) ])),
)

pub gains_nothing : (P : List Term → Type 0) (old : List (List Term)) → ((ts : List Term) → P ts → ⊥) → Gains P old old
gains_nothing P old none ts = ((λ k. inl k), (λ k. elim k [ inl m ↦ m | inr p ↦ absurd (none ts p) ]))

-- what a list with the same members gains
pub gains_kept : (P : List Term → Type 0) (start old new : List (List Term)) → Gains P start old → ((ts : List Term) → In ts new ↔ In ts old) → Gains P start new
gains_kept P start old new gains same ts = ((λ i. (gains ts).0 ((same ts).0 i)), (λ k. (same ts).1 ((gains ts).1 k)))
