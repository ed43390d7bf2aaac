use Rattle.std.proofs.Common.{◌≡◌, ◌+◌, map, take}
use Rattle.fact_derivation.proofs.finding.from_one.Given as goal

abbrev pub invariant-loop-row : goal.invariant-loop-row
invariant-loop-row l = l.numbers ≡ map (λ n. n + 1) (take l.row-index l.rows)
