-- What is sorted, without repeats.
use Rattle.std.proofs.Common.{◌≡◌, ◌↔◌, refl, Bool, List}
use Rattle.std.specs.Ordering.{is_eq}
use Rattle.std.specs.Cmp.{Equal-is}
use Rattle.std.specs.List.{dedup}
use Rattle.std.specs.List.Sorted.{IsPermutation, IsSorted}
use Rattle.std.proofs.lemmas.Cmp.{eq_by_cmp_equiv}
use Rattle.std.proofs.lemmas.List.Kept.{Contains-dedup, Contains-from_dedup, IsStrictlySortedBy-dedup}
use Rattle.std.proofs.lemmas.List.Sorted.{Contains-permutation, IsPermutation-sym}
use Rattle.vocabulary.specs.declared.term.Term.{Term}
use Rattle.vocabulary.specs.Lists.{In, IsListOf}
use Rattle.vocabulary.proofs.Members.{In-from_Contains, Contains-from_In}
use Rattle.queries.specs.Order.{tuple_cmp}
use Rattle.queries.proofs.Ordered.{tuples_ordered}

abbrev pub alike : List Term → List Term → Bool
alike ts us = is_eq (tuple_cmp ts us)

pub put_in_order : (xs ys zs : List (List Term)) → IsPermutation xs ys → IsSorted tuple_cmp ys → zs ≡ dedup alike ys → IsListOf tuple_cmp (λ ts. In ts xs) zs
put_in_order xs ys zs moved sorted is = rw is (record {
  ordered = IsStrictlySortedBy-dedup tuples_ordered.tuples (λ x y. refl) ys sorted;
  each = λ x h. In-from_Contains xs (Contains-permutation ys xs x (IsPermutation-sym xs ys moved) (Contains-from_dedup alike ys x (Contains-from_In h)));
  all = λ x h. In-from_Contains (dedup alike ys) (Contains-dedup (eq_by_cmp_equiv tuples_ordered.tuples) (λ a b e. (tuples_ordered.tuple_level a b).0 ((Equal-is (tuple_cmp a b)).0 e)) ys x (Contains-permutation xs ys x moved (Contains-from_In h)));
})

-- what is in order, each once, has the same members
pub same_members : (xs zs : List (List Term)) → IsListOf tuple_cmp (λ ts. In ts xs) zs → (ts : List Term) → In ts zs ↔ In ts xs
same_members xs zs is ts = (is.each ts, is.all ts)
