-- Which variables are noted.
use Rattle.std.proofs.Common.{ℕ, zero, suc, arith, ◌≡◌, sym, subst, ◌+◌, ◌<◌, ◌≤◌, List, [], ◌∷◌, ◌++◌, length, get_or, take, ◌↔◌, ◌⊎◌, inl, inr}
use Rattle.std.specs.List.{remove}
use Rattle.std.proofs.lemmas.List.{take_all}
use Rattle.vocabulary.specs.declared.ids.VarId.{VarId}
use Rattle.vocabulary.specs.Lists.{In, here, there}
use Rattle.vocabulary.proofs.Lists.{In-append_left, In-append_right, In-append_cases}
use Rattle.queries.specs.declared.query.Arg.{Arg}
use Rattle.queries.specs.declared.query.Atom.{Atom}
use Rattle.queries.specs.Occurrences.{atom_occurs, count}
use Rattle.query_images.specs.Cuts.{AreShared, IsNeeded}
use Rattle.query_images.proofs.Imaged.{earlier as still, earlier_or_latest, latest}
use Rattle.query_images.proofs.Parts.{count_some, some_count}

-- the list has what it had, and what P holds of
abbrev pub Notes : (VarId → Type 0) → List VarId → List VarId → Type 0
Notes P old new = (v : VarId) → In v new ↔ (In v old ⊎ P v)

pub notes_one : (others : List Atom) (head : List Arg) (var : VarId) (old new : List VarId) → IsNeeded others head var → new ≡ old ++ var ∷ [] → Notes (λ v. (v ≡ var) × IsNeeded others head v) old new
notes_one others head var old new needed e v = (
  (λ i. elim (In-append_cases old (var ∷ []) (subst (In v) e i)) [ inl m ↦ inl m | inr m ↦ inr (only m) ]),
  (λ k. subst (In v) (sym e) (elim k [ inl m ↦ In-append_left (var ∷ []) m | inr p ↦ In-append_right old (here (sym p.0)) ])),
)
  where
    only : In v (var ∷ []) → (v ≡ var) × IsNeeded others head v
    only (here h) = (sym h, subst (IsNeeded others head) h needed)
    only (there k) = elim k [ ]

pub notes_none : (P : VarId → Type 0) (old : List VarId) → ((v : VarId) → P v → In v old) → Notes P old old
notes_none P old has v = ((λ i. inl i), (λ k. elim k [ inl m ↦ m | inr p ↦ has v p ]))

-- one atom further
module _ (own others : List Atom) (head : List Arg) (i : ℕ) (a : Atom) (l : i < length own) (is : a ≡ get_or own i a) where
  pub shared_more : (old new : List VarId) → AreShared (take i own) others head old → Notes (λ v. (1 ≤ atom_occurs v a) × IsNeeded others head v) old new → AreShared (take (i + 1) own) others head new
  shared_more old new so_far notes v = (
    (λ k. elim ((notes v).0 k) [
      | inl m ↦ (let s = (so_far v).0 m in (earlier s.0, s.1))
      | inr p ↦ (some_count v a (take (i + 1) own) last p.0, p.1)
    ]),
    (λ s. (notes v).1 (elim (cases s.0) [ inl k ↦ inl ((so_far v).1 (k, s.1)) | inr k ↦ inr (k, s.1) ])),
  )
    where
      last : In a (take (i + 1) own)
      last = latest own i a l is

      earlier : 1 ≤ count v (take i own) → 1 ≤ count v (take (i + 1) own)
      earlier k = let r = count_some v (take i own) k in some_count v r.0 (take (i + 1) own) (still own i a l is r.0 r.1) r.2

      cases : 1 ≤ count v (take (i + 1) own) → (1 ≤ count v (take i own)) ⊎ (1 ≤ atom_occurs v a)
      cases k =
          let r = count_some v (take (i + 1) own) k in
          elim (earlier_or_latest own i a l is r.0 r.1) [ inl m ↦ inl (some_count v r.0 (take i own) m r.2) | inr e ↦ inr (subst (λ z. 1 ≤ atom_occurs v z) e r.2) ]

pub shared_none : (others : List Atom) (head : List Arg) (own : List Atom) → AreShared (take 0 own) others head []
shared_none others head own v = ((λ i. elim i [ ]), (λ s. absurd (omega (arith, s.0))))

pub shared_all : (own others : List Atom) (head : List Arg) (i : ℕ) (vars : List VarId) → length own ≤ i → AreShared (take i own) others head vars → AreShared own others head vars
shared_all own others head i vars l so_far = subst (λ z. AreShared z others head vars) (take_all i own l) so_far

-- an atom of a list is the one that is taken, or one of those left
pub of_taken : (atoms : List Atom) (at : ℕ) (a d : Atom) → at < length atoms → In a atoms ↔ (In a (get_or atoms at d ∷ []) ⊎ In a (remove atoms at))
of_taken [] at a d l = absurd (omega (arith, l))
of_taken (b ∷ atoms) zero a d l = (
  (λ i. elim i [ here e ↦ inl (here e) | there k ↦ inr k ]),
  (λ k. elim k [ inl m ↦ elim m [ here e ↦ here e | there n ↦ elim n [ ] ] | inr m ↦ there m ]),
)
of_taken (b ∷ atoms) (suc at) a d l =
    let r = of_taken atoms at a d (omega (arith, l)) in (
      (λ i. elim i [ here e ↦ inr (here e) | there k ↦ elim (r.0 k) [ inl m ↦ inl m | inr m ↦ inr (there m) ] ]),
      (λ k. elim k [ inl m ↦ there (r.1 (inl m)) | inr m ↦ elim m [ here e ↦ here e | there n ↦ there (r.1 (inr n)) ] ]),
    )

pub fewer_left : (atoms : List Atom) (at : ℕ) → at < length atoms → length (remove atoms at) + 1 ≡ length atoms
fewer_left [] at l = absurd (omega (arith, l))
fewer_left (b ∷ atoms) zero l = omega arith
fewer_left (b ∷ atoms) (suc at) l = omega (arith, fewer_left atoms at (omega (arith, l)))
