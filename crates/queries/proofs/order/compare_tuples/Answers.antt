-- By `Comparing`.
use Rattle.std.proofs.Common.{refl, ◌∙◌, ◌≤◌, ◌⊎◌, inl, inr, length, arith}
use Rattle.queries.specs.Order.{term_cmp}
use Rattle.queries.proofs.Comparing.{found_cmp, next_cmp, end_cmp}
use Rattle.queries.proofs.order.compare_tuples.Goals as goal
use Rattle.queries.proofs.order.compare_tuples.Goals.{then-loop-at-test+else-at-us, else-loop-at-test}

pub loop-at-init : goal.loop-at-init
loop-at-init c = record { left = refl; in_first = omega arith; in_second = omega arith }

pub returns-then-is_ne : goal.returns-then-is_ne
returns-then-is_ne c =
    found_cmp term_cmp c.args.ts.now c.args.us.now c.loop-at.at c.index-ts-at.result c.index-us-at.result c.compare_terms-here.result (omega arith) (omega arith) c.index-ts-at.is c.index-us-at.is c.compare_terms-here.ensures c.if-is_ne.ensures c.loop-at.invariant.left

pub loop-at-preserved : goal.loop-at-preserved
loop-at-preserved c =
    record {
      left = next_cmp term_cmp c.args.ts.now c.args.us.now c.loop-at.at c.index-ts-at.result c.index-us-at.result c.compare_terms-here.result (omega arith) (omega arith) c.index-ts-at.is c.index-us-at.is c.compare_terms-here.ensures c.if-is_ne.ensures c.loop-at.invariant.left;
      in_first = omega arith;
      in_second = omega arith;
    }

pub returns : goal.returns
returns c =
    let used : (length c.args.ts.now ≤ c.loop-at.at) ⊎ (length c.args.us.now ≤ c.loop-at.at) =
    elim c.loop-at-test.branch [
      | then-loop-at-test+else-at-us w ↦ inr (omega (arith, w.if-at-us))
      | else-loop-at-test w ↦ inl (omega (arith, w.loop-at-test))
    ] in
    c.cmp.ensures ∙ end_cmp term_cmp c.args.ts.now c.args.us.now c.loop-at.at c.loop-at.invariant.in_first c.loop-at.invariant.in_second used c.loop-at.invariant.left
