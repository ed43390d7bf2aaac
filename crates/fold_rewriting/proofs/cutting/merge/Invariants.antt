-- The arguments so far are one.
use Rattle.std.proofs.Common.{◌≡◌, length, Some}
use Rattle.fold_rewriting.specs.Cutting.{merged}
use Rattle.fold_rewriting.proofs.cutting.merge.Given as goal

abbrev pub invariant-loop-at : goal.invariant-loop-at
invariant-loop-at l = record {
  merged : merged l.v l.query l.at ≡ Some l.cut;
  long : length l.cut.query.atoms ≡ length l.query.atoms;
}
