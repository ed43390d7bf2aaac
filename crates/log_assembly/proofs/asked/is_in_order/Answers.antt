-- By neighbours.
use Rattle.std.proofs.Common.{IsTrue, ◌↔◌, rules, subst}
use Rattle.std.specs.List.Sorted.{IsStrictlySortedBy}
use Rattle.std.specs.Ordering.{is_lt}
use Rattle.std.proofs.lemmas.List.Sorted.{answers_always}
use Rattle.queries.specs.Order.{tuple_cmp}
use Rattle.queries.proofs.Ordered.{tuples_ordered}
use Rattle.log_assembly.proofs.InOrder.{sorted_answer}
use Rattle.log_assembly.proofs.asked.is_in_order.Goals as goal

pub returns : goal.returns
returns c =
    let told = c.is_sorted_by.ensures.cases (λ x y. is_lt (tuple_cmp x y)) (answers_always _ _ _ (λ f a r g h. search rules)) in
    let sorted = sorted_answer tuple_cmp tuples_ordered.tuples c.tuples-tuples.result.now c.is_sorted_by.result told in
    subst (λ xs. IsTrue c.is_sorted_by.result ↔ IsStrictlySortedBy tuple_cmp xs) c.tuples-tuples.ensures sorted
