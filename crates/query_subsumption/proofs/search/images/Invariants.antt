-- The images so far.
use Rattle.std.proofs.Common.{◌≡◌, ℕ, ◌<◌, length, Some, slice_get}
use Rattle.query_subsumption.specs.Images.{told}
use Rattle.query_subsumption.specs.Search.{reading}
use Rattle.query_subsumption.proofs.search.images.Given as goal

abbrev pub invariant-loop-number : goal.invariant-loop-number
invariant-loop-number l = record {
  size : length l.out.items ≡ l.number;
  each : (n : ℕ) → n < l.number → slice_get l.out.items n ≡ Some (told l.blanks_from (reading l.bindings (record { 0 = n })));
}
