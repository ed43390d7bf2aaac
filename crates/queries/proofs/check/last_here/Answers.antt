-- By `Counting`.
use Rattle.std.proofs.Common.{inl, inr, arith}
use Rattle.queries.proofs.Counting.{new_here, old_here}
use Rattle.queries.proofs.check.last_here.Goals as goal
use Rattle.queries.proofs.check.last_here.Goals.{else-head_count_of-eq0-via-then-head_count_of-eq0+else-count_of-eq0, else-head_count_of-eq0-via-else-head_count_of-eq0}

pub returns-then-count_of-eq0-clause-value : goal.returns-then-count_of-eq0-clause-value
returns-then-count_of-eq0-clause-value c =
    new_here c.args.x.now c.in-Var.v c.args.args.now c.args.atoms.now c.in-Var.is (omega (arith, c.head_count_of.ensures, c.if-head_count_of-eq0.true)) (omega (arith, c.count_of.ensures, c.if-count_of-eq0.true))

pub returns-else-head_count_of-eq0-clause-value : goal.returns-else-head_count_of-eq0-clause-value
returns-else-head_count_of-eq0-clause-value c =
    old_here c.args.x.now c.in-Var.v c.args.args.now c.args.atoms.now c.in-Var.is (elim c.else-head_count_of-eq0.branch [
      | else-head_count_of-eq0-via-then-head_count_of-eq0+else-count_of-eq0 w ↦ inr (omega (arith, w.count_of.ensures, w.if-count_of-eq0.false))
      | else-head_count_of-eq0-via-else-head_count_of-eq0 w ↦ inl (omega (arith, c.head_count_of.ensures, w.if-head_count_of-eq0.false))
    ])
