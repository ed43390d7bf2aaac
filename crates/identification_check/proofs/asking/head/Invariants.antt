use Rattle.std.proofs.Common.{◌≡◌, take}
use Rattle.identification_check.specs.Asking.{value_vars}
use Rattle.identification_check.proofs.asking.head.Given as goal

abbrev pub invariant-loop-at : goal.invariant-loop-at
invariant-loop-at l = l.head ≡ value_vars 1 (take l.at l.links)
