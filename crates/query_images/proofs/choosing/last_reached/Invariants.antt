-- The atom that was taken last stands.
use Rattle.std.proofs.Common.{◌≡◌, ◌<◌, length}
use Rattle.query_images.proofs.choosing.last_reached.Given as goal

abbrev pub invariant-loop : goal.invariant-loop
invariant-loop l = record {
  last : l.last < length l.fn.atoms;
  each : length l.reached.items ≡ length l.fn.atoms;
}
