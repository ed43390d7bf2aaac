-- A place between what comes before a term and what does not.
use Rattle.std.proofs.Common.{◌≡◌, refl, sym, ◌∙◌, ap, ℕ, ◌+◌, ◌-◌, ◌<◌, ◌≤◌, Bool, true, false, List, [], length, get_or, drop, arith}
use Rattle.std.specs.Ordering.{is_le, is_lt, ordering_index}
use Rattle.std.specs.List.Sorted.{IsPartitionPoint, IsStrictlySortedBy}
use Rattle.std.proofs.lemmas.List.{get_or-drop, get_or_default, length-drop}
use Rattle.vocabulary.specs.declared.term.Term.{Term}
use Rattle.queries.specs.Order.{tuple_cmp}
use Rattle.log_assembly.specs.Found.{IsFirst, first_cmp}
use Rattle.log_assembly.proofs.Runs.{le_down, lt_down, no_later}
use Rattle.log_assembly.proofs.Tuples.{first_rises}

later : (t : Term) (xs : List (List Term)) (i j : ℕ) (d : List Term) → IsStrictlySortedBy tuple_cmp xs → i ≤ j → j < length xs → ordering_index (first_cmp t (get_or xs i d)) ≤ ordering_index (first_cmp t (get_or xs j d))
later t xs i j d s l m = no_later tuple_cmp (first_cmp t) (first_rises t) xs i j d s l m

not_back : (b c : Bool) → (c ≡ true → b ≡ true) → b ≡ false → c ≡ false
not_back b true h e = let g : b ≡ true = h refl in cc
not_back b false h e = refl

-- in a list in order two neighbours tell where a term belongs
pub first_is : (t : Term) (xs : List (List Term)) (at : ℕ) → IsStrictlySortedBy tuple_cmp xs → IsFirst t xs at → IsPartitionPoint (λ y. is_lt (first_cmp t y) ≡ true) (λ y. is_lt (first_cmp t y) ≡ false) xs at
first_is t xs at s f = (
  (λ k d z l.
      let w = f.behind.within in
      let inside : at - 1 < length xs = omega (arith, l, w) in
      let same : get_or xs (at - 1) [] ≡ get_or xs (at - 1) d = get_or_default xs (at - 1) [] d inside in
      lt_down (first_cmp t (get_or xs k d)) (first_cmp t (get_or xs (at - 1) d)) (later t xs k (at - 1) d s (omega (arith, l)) inside) (ap (λ y. is_lt (first_cmp t y)) (sym same) ∙ f.behind.before (omega (arith, l)))),
  (λ k d z l.
      let inside : at < length xs = omega (arith, l, z) in
      let same : get_or xs at [] ≡ get_or xs at d = get_or_default xs at [] d inside in
      not_back (is_lt (first_cmp t (get_or xs at d))) (is_lt (first_cmp t (get_or xs k d)))
      (lt_down (first_cmp t (get_or xs at d)) (first_cmp t (get_or xs k d)) (later t xs at k d s z l)) (ap (λ y. is_lt (first_cmp t y)) (sym same) ∙ f.here inside)),
)

-- the end of a run that was walked to
pub end_is : (t : Term) (xs : List (List Term)) (from end : ℕ) → IsStrictlySortedBy tuple_cmp xs → from ≤ end → end ≤ length xs → ((k : ℕ) (d : List Term) → from ≤ k → k < end → is_le (first_cmp t (get_or xs k d)) ≡ true) →
    (end < length xs → is_le (first_cmp t (get_or xs end [])) ≡ false) → IsPartitionPoint (λ y. is_le (first_cmp t y) ≡ true) (λ y. is_le (first_cmp t y) ≡ false) (drop from xs) (end - from)
end_is t xs from end s l w upto stop = (
  (λ k d z h. ap (λ y. is_le (first_cmp t y)) (get_or-drop from xs k d) ∙ upto (from + k) d (omega arith) (omega (arith, h, l))),
  (λ k d z h.
      let inside : from + k < length xs = omega (arith, h, length-drop from xs) in
      let e : end < length xs = omega (arith, inside, z, l) in
      let same : get_or xs end [] ≡ get_or xs end d = get_or_default xs end [] d e in
      ap (λ y. is_le (first_cmp t y)) (get_or-drop from xs k d)
      ∙ not_back (is_le (first_cmp t (get_or xs end d))) (is_le (first_cmp t (get_or xs (from + k) d)))
      (le_down (first_cmp t (get_or xs end d)) (first_cmp t (get_or xs (from + k) d)) (later t xs end (from + k) d s (omega (arith, z, l)) inside)) (ap (λ y. is_le (first_cmp t y)) (sym same) ∙ stop e)),
)
