use Rattle.std.proofs.Common.{take}
use Rattle.why_answers.specs.Folding.{AddsFolds}
use Rattle.why_answers.proofs.folding.push_folds.Given as goal

abbrev pub invariant-loop-step : goal.invariant-loop-step
invariant-loop-step l = AddsFolds l.from (take l.step-index l.steps) l.fn.nodes l.nodes
