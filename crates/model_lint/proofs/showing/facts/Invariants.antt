-- What is left decides, behind the facts so far.
use Rattle.std.proofs.Common.{◌≡◌, [], ◌∷◌, drop}
use Rattle.negative_closure.specs.Plans.{run_of}
use Rattle.model_lint.proofs.showing.facts.Given as goal

abbrev pub invariant-loop-rule : goal.invariant-loop-rule
invariant-loop-rule l = run_of l.axioms (l.fn.first ∷ []) l.rules ≡ run_of l.axioms l.facts (drop l.rule-index l.rules)
