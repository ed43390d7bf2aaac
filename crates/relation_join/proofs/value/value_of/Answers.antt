-- By `Values`.
use Rattle.std.proofs.Common.{sym, ◌∙◌, ◌≤◌, ◌⊎◌, inl, inr, length, arith}
use Rattle.relation_join.proofs.Values.{value_next, value_end}
use Rattle.relation_join.proofs.value.value_of.Goals as goal
use Rattle.relation_join.proofs.value.value_of.Goals.{then-loop-at-test+else-at-row, else-loop-at-test}

pub loop-at-preserved : goal.loop-at-preserved
loop-at-preserved c = sym (value_next c.args.vars.now c.args.row.now c.args.var c.loop-at.at c.loop-at-test.true c.if-at-row.true c.if-vars-at.false) ∙ c.loop-at.invariant

pub returns : goal.returns
returns c =
    let used : (length c.args.vars.now ≤ c.loop-at.at) ⊎ (length c.args.row.now ≤ c.loop-at.at) =
    elim c.loop-at-test.branch [
      | then-loop-at-test+else-at-row w ↦ inr (omega (arith, w.if-at-row))
      | else-loop-at-test w ↦ inl (omega (arith, w.loop-at-test))
    ] in
    sym (value_end c.args.vars.now c.args.row.now c.args.var c.loop-at.at used) ∙ c.loop-at.invariant
