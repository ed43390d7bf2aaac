-- Tuples in order, by their first terms.
use Rattle.std.proofs.Common.{◌≡◌, refl, ◌≤◌, List, [], ◌∷◌, false, arith}
use Rattle.std.specs.declared.cmp.Ordering.{Ordering}
use Rattle.std.specs.declared.cmp.Ordering.TheVariants.{Less, Equal, Greater}
use Rattle.std.specs.Ordering.{is_gt, ordering_index, ordering_then}
use Rattle.vocabulary.specs.declared.term.Term.{Term}
use Rattle.queries.specs.Order.{term_cmp, tuple_cmp}
use Rattle.queries.proofs.Ordered.{tuples_ordered}
use Rattle.log_assembly.specs.Found.{first_cmp}
use Rattle.log_assembly.proofs.Runs.{rises}

pub not_above : (a b : Ordering) → ordering_then a b ≡ Less → is_gt a ≡ false
not_above Less b e = refl
not_above Equal b e = refl
not_above Greater b e = cc

pub first_rises : (t : Term) (xs ys : List Term) → tuple_cmp xs ys ≡ Less → ordering_index (first_cmp t xs) ≤ ordering_index (first_cmp t ys)
first_rises t [] ys e = omega arith
first_rises t (x ∷ xs) [] e = cc
first_rises t (x ∷ xs) (y ∷ ys) e = rises term_cmp tuples_ordered.terms x y t (not_above (term_cmp x y) (tuple_cmp xs ys) e)
