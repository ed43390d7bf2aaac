-- Tuples in order of which no two neighbours have the same front: then no two have it.
use Rattle.std.proofs.Common.{◌≡◌, refl, sym, ◌∙◌, ap, subst, ℕ, zero, suc, ◌+◌, ◌<◌, List, [], ◌∷◌, length, take, get_or, map, arith}
use Rattle.std.specs.declared.cmp.Ordering.{Ordering}
use Rattle.std.specs.declared.cmp.Ordering.TheVariants.{Less, Equal, Greater}
use Rattle.std.specs.List.{AllByRecursion}
use Rattle.std.specs.List.Sorted.{IsStrictlySortedBy}
use Rattle.std.specs.Ordering.{ordering_then}
use Rattle.std.proofs.lemmas.List.{get_or-map, length-map}
use Rattle.std.proofs.lemmas.Map.Keys.{Less-from_sorted, sorted_from_all_adjacent}
use Rattle.vocabulary.specs.declared.term.Term.{Term}
use Rattle.vocabulary.specs.Lists.{In, here, there}
use Rattle.queries.specs.Order.{term_cmp, tuple_cmp}
use Rattle.queries.proofs.Ordered.{tuples_ordered}
use Rattle.identification_check.specs.Members.{AreTwins}

not_less : (ts us : List Term) → ts ≡ us → tuple_cmp ts us ≡ Less → ⊥
not_less ts us same less = let level = (tuples_ordered.tuple_level ts us).1 same in let e : Equal ≡ Less = sym level ∙ less in cc

-- a smaller tuple with another front has a smaller front
less_front : (n : ℕ) (ts us : List Term) → n < length ts → n < length us → tuple_cmp ts us ≡ Less → (take n ts ≡ take n us → ⊥) → tuple_cmp (take n ts) (take n us) ≡ Less
less_front zero ts us long_ts long_us less differ = absurd (differ refl)
less_front (suc n) [] us long_ts long_us less differ = absurd (omega (arith, long_ts))
less_front (suc n) (t ∷ ts) [] long_ts long_us less differ = absurd (omega (arith, long_us))
less_front (suc n) (t ∷ ts) (u ∷ us) long_ts long_us less differ =
    by (term_cmp t u) refl less (λ h d. less_front n ts us (omega (arith, long_ts)) (omega (arith, long_us)) h d)
  where
    by : (o : Ordering) → term_cmp t u ≡ o → ordering_then o (tuple_cmp ts us) ≡ Less → (tuple_cmp ts us ≡ Less → (take n ts ≡ take n us → ⊥) → tuple_cmp (take n ts) (take n us) ≡ Less) → ordering_then (term_cmp t u) (tuple_cmp (take n ts) (take n us)) ≡ Less
    by Less is h onward = ap (λ o. ordering_then o (tuple_cmp (take n ts) (take n us))) is
    by Equal is h onward =
        let same = (tuples_ordered.term_level t u).0 is in
        ap (λ o. ordering_then o (tuple_cmp (take n ts) (take n us))) is ∙ onward h (λ e. differ (λ i. same i ∷ e i))
    by Greater is h onward = cc

module _ (n : ℕ) where
  at_place : (tuples : List (List Term)) (i : ℕ) → i < length tuples → In (get_or tuples i []) tuples
  at_place [] i low = absurd (omega (arith, low))
  at_place (t ∷ tuples) zero low = here refl
  at_place (t ∷ tuples) (suc i) low = there (at_place tuples i (omega (arith, low)))

  fronts_sorted : (tuples : List (List Term)) → ((ts : List Term) → In ts tuples → n < length ts) → IsStrictlySortedBy tuple_cmp tuples → ((i : ℕ) → i + 1 < length tuples → AreTwins n tuples i → ⊥) → IsStrictlySortedBy tuple_cmp (map (take n) tuples)
  fronts_sorted tuples longer sorted differ = sorted_from_all_adjacent tuples_ordered.tuples (map (take n) tuples) [] (λ k low. adjacent k low)
    where
      adjacent : (k : ℕ) → k + 1 < length (map (take n) tuples) → tuple_cmp (get_or (map (take n) tuples) k []) (get_or (map (take n) tuples) (k + 1) []) ≡ Less
      adjacent k low =
          let long = length-map tuples (take n) in
          let first : k < length tuples = omega (arith, low, long) in
          let second : k + 1 < length tuples = omega (arith, low, long) in
          let less = Less-from_sorted tuple_cmp tuples k (k + 1) [] sorted (omega arith) second in
          let fronts = less_front n (get_or tuples k []) (get_or tuples (k + 1) []) (longer (get_or tuples k []) (at_place tuples k first)) (longer (get_or tuples (k + 1) []) (at_place tuples (k + 1) second)) less (differ k second) in
          ap (λ ts. tuple_cmp ts (get_or (map (take n) tuples) (k + 1) [])) (get_or-map (take n) tuples k [] [] first)
          ∙ ap (tuple_cmp (take n (get_or tuples k []))) (get_or-map (take n) tuples (k + 1) [] [] second)
          ∙ fronts

  above : (t : List Term) (tuples : List (List Term)) → AllByRecursion (λ y. tuple_cmp (take n t) y ≡ Less) (map (take n) tuples) → (us : List Term) → In us tuples → tuple_cmp (take n t) (take n us) ≡ Less
  above t [] all us i = elim i [ ]
  above t (x ∷ tuples) all us (here e) = subst (λ z. tuple_cmp (take n t) (take n z) ≡ Less) e all.0
  above t (x ∷ tuples) all us (there i) = above t tuples all.1 us i

  one_front : (tuples : List (List Term)) → IsStrictlySortedBy tuple_cmp (map (take n) tuples) → (ts us : List Term) → In ts tuples → In us tuples → take n ts ≡ take n us → ts ≡ us
  unfolding IsStrictlySortedBy
  one_front [] sorted ts us i j same = elim i [ ]
  one_front (t ∷ tuples) sorted ts us (here e) (here f) same = sym e ∙ f
  one_front (t ∷ tuples) sorted ts us (here e) (there j) same = absurd (not_less (take n t) (take n us) (ap (take n) e ∙ same) (above t tuples sorted.0 us j))
  one_front (t ∷ tuples) sorted ts us (there i) (here f) same = absurd (not_less (take n t) (take n ts) (ap (take n) f ∙ sym same) (above t tuples sorted.0 ts i))
  one_front (t ∷ tuples) sorted ts us (there i) (there j) same = one_front tuples sorted.1 ts us i j same

  -- where no neighbours have the same front, only the same tuples have it
  pub told_apart : (tuples : List (List Term)) → ((ts : List Term) → In ts tuples → n < length ts) → IsStrictlySortedBy tuple_cmp tuples → ((i : ℕ) → i + 1 < length tuples → AreTwins n tuples i → ⊥) → (ts us : List Term) → In ts tuples → In us tuples → take n ts ≡ take n us → ts ≡ us
  told_apart tuples longer sorted differ = one_front tuples (fronts_sorted tuples longer sorted differ)

-- neighbours differ
pub neighbours_differ : (tuples : List (List Term)) (i : ℕ) → IsStrictlySortedBy tuple_cmp tuples → i + 1 < length tuples → get_or tuples i [] ≡ get_or tuples (i + 1) [] → ⊥
neighbours_differ tuples i sorted low same = not_less (get_or tuples i []) (get_or tuples (i + 1) []) same (Less-from_sorted tuple_cmp tuples i (i + 1) [] sorted (omega arith) low)
