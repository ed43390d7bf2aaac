use Rattle.std.proofs.Common.{◌≡◌, length}
use Rattle.join_engine.proofs.sieving.any_rows.Given as goal

abbrev pub invariant-loop-place : goal.invariant-loop-place
invariant-loop-place l = length l.rows.items ≡ l._place
