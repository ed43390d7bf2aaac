use Rattle.std.proofs.Common.{◌≡◌, take}
use Rattle.std.specs.List.{All}
use Rattle.conflict_checker.specs.Derivations.{IsAccepted}
use Rattle.onprom_core.proofs.verifying.first_refused.Given as goal

abbrev pub invariant-loop-derivation : goal.invariant-loop-derivation
invariant-loop-derivation l = record {
  counted : l.number ≡ l.derivation-index;
  accepted : All (λ d. IsAccepted l.tbox l.mappings l.tables d) (take l.derivation-index l.derivations);
}
