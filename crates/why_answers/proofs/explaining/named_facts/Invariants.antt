-- What is left decides, behind the facts so far.
use Rattle.std.proofs.Common.{◌≡◌, ◌++◌, drop}
use Rattle.std.specs.Prelude.{option_map}
use Rattle.conflict_checker.specs.Derivations.{items_at}
use Rattle.why_answers.proofs.explaining.named_facts.Given as goal

abbrev pub invariant-loop-number : goal.invariant-loop-number
invariant-loop-number l = items_at l.facts l.numbers ≡ option_map (λ rest. l.named ++ rest) (items_at l.facts (drop l.number-index l.numbers))
