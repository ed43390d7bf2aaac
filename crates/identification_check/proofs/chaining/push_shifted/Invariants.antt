use Rattle.std.proofs.Common.{◌≡◌, ◌++◌, length, map, take}
use Rattle.identification_check.specs.Chained.{shifted}
use Rattle.identification_check.proofs.chaining.push_shifted.Given as goal

abbrev pub invariant-loop-step : goal.invariant-loop-step
invariant-loop-step l = l.steps ≡ l.fn.steps ++ map (shifted (length l.fn.steps)) (take l.step-index l.more)
