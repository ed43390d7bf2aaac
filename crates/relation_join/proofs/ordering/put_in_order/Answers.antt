-- Sorted, then without repeats.
use Rattle.std.proofs.Common.{rules}
use Rattle.std.specs.Ordering.{is_lt}
use Rattle.std.proofs.lemmas.Fn.{dedup_same}
use Rattle.std.proofs.lemmas.List.Sorted.{answers_always, ranks_by}
use Rattle.queries.specs.Order.{tuple_cmp}
use Rattle.queries.proofs.Ordered.{tuples_ordered}
use Rattle.relation_join.proofs.InOrder.{alike, put_in_order}
use Rattle.relation_join.proofs.ordering.put_in_order.Goals as goal

pub returns : goal.returns
returns c =
    let sorted = c.in_ok-sort_by.ensures.sorted (λ x y. is_lt (tuple_cmp x y)) (ranks_by tuples_ordered.tuples (λ x. x)) (answers_always _ _ _ (λ f a r g h. search rules)) in
    put_in_order c.args.tuples.now.items c.sort_by.new.self.items c.dedup_by.new.self.items c.sort_by.ensures.permutation sorted (dedup_same _ alike _ (λ x y b f' x' y' k. search rules) _ _ c.dedup_by.ensures.filtered)
