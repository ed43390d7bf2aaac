-- Sorted, then without repeats.
use Rattle.std.proofs.Common.{rules}
use Rattle.std.specs.Ordering.{is_lt}
use Rattle.std.proofs.lemmas.Fn.{dedup_same}
use Rattle.std.proofs.lemmas.List.Sorted.{answers_always, ranks_by}
use Rattle.log_assembly.specs.Gathered.{occurrence_cmp}
use Rattle.log_assembly.proofs.Occurring.{alike, occurrence_total, put_in_order}
use Rattle.log_assembly.proofs.occurrences.in_order.Goals as goal

pub returns : goal.returns
returns c =
    let sorted = c.in_ok-sort_by.ensures.sorted (λ x y. is_lt (occurrence_cmp x y)) (ranks_by occurrence_total (λ x. x)) (answers_always _ _ _ (λ f a r g h. search rules)) in
    put_in_order c.args.found.items c.sort_by.new.self.items c.dedup_by.new.self.items c.sort_by.ensures.permutation sorted (dedup_same _ alike _ (λ x y b f' x' y' k. search rules) _ _ c.dedup_by.ensures.filtered)
