use Rattle.std.proofs.Common.{◌≡◌, take}
use Rattle.onprom_core.specs.Meaning.{contradicted_lines}
use Rattle.onprom_core.proofs.checking.contradicted_lines.Given as goal

abbrev pub invariant-loop-derivation : goal.invariant-loop-derivation
invariant-loop-derivation l = l.report ≡ contradicted_lines (take l.derivation-index l.found)
