-- By `Comparing`.
use Rattle.std.proofs.Common.{refl, ◌∙◌, ◌≤◌, ◌⊎◌, inl, inr, length, arith}
use Rattle.queries.specs.Order.{arg_cmp}
use Rattle.queries.proofs.Comparing.{found_cmp, next_cmp, end_cmp}
use Rattle.queries.proofs.order.compare_args.Goals as goal
use Rattle.queries.proofs.order.compare_args.Goals.{then-loop-at-test+else-at-ys, else-loop-at-test}

pub loop-at-init : goal.loop-at-init
loop-at-init c = record { left = refl; in_first = omega arith; in_second = omega arith }

pub returns-then-is_ne : goal.returns-then-is_ne
returns-then-is_ne c =
    found_cmp arg_cmp c.args.xs.now c.args.ys.now c.loop-at.at c.index-xs-at.result c.index-ys-at.result c.compare-here.result (omega arith) (omega arith) c.index-xs-at.is c.index-ys-at.is c.compare-here.ensures c.if-is_ne.ensures c.loop-at.invariant.left

pub loop-at-preserved : goal.loop-at-preserved
loop-at-preserved c =
    record {
      left = next_cmp arg_cmp c.args.xs.now c.args.ys.now c.loop-at.at c.index-xs-at.result c.index-ys-at.result c.compare-here.result (omega arith) (omega arith) c.index-xs-at.is c.index-ys-at.is c.compare-here.ensures c.if-is_ne.ensures c.loop-at.invariant.left;
      in_first = omega arith;
      in_second = omega arith;
    }

pub returns : goal.returns
returns c =
    let used : (length c.args.xs.now ≤ c.loop-at.at) ⊎ (length c.args.ys.now ≤ c.loop-at.at) =
    elim c.loop-at-test.branch [
      | then-loop-at-test+else-at-ys w ↦ inr (omega (arith, w.if-at-ys))
      | else-loop-at-test w ↦ inl (omega (arith, w.loop-at-test))
    ] in
    c.cmp.ensures ∙ end_cmp arg_cmp c.args.xs.now c.args.ys.now c.loop-at.at c.loop-at.invariant.in_first c.loop-at.invariant.in_second used c.loop-at.invariant.left
