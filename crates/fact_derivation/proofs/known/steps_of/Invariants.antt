use Rattle.std.proofs.Common.{◌≡◌, ◌∷◌, take}
use Rattle.fact_derivation.specs.Derivings.{rule_steps}
use Rattle.fact_derivation.proofs.known.steps_of.Given as goal

abbrev pub invariant-loop-at : goal.invariant-loop-at
invariant-loop-at l = l.steps ≡ l.fn.step ∷ rule_steps (take l.at l.numbers) 1
