use Rattle.std.proofs.Common.{◌≡◌, ◌++◌, ◌∷◌, [], not, filter, length}
use Rattle.std.specs.List.{range_with_len}
use Rattle.join_engine.specs.Sieves.{fails_alone}
use Rattle.join_engine.proofs.sieving.sieve.Given as goal

abbrev pub invariant-loop-row : goal.invariant-loop-row
invariant-loop-row l = record {
  long : length l.probe.items ≡ l.depth;
  kept : l.kept ≡ filter (λ i. not (fails_alone l.tables l.query l.depth (l.probe.items ++ (i ∷ [])))) (range_with_len 0 l.row);
}
