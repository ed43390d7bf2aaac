-- What is left decides, behind the terms so far.
use Rattle.std.proofs.Common.{◌≡◌, ◌++◌, drop}
use Rattle.std.specs.Prelude.{option_map}
use Rattle.why_answers.specs.Reading.{head_terms}
use Rattle.why_answers.proofs.reading.head_terms.Given as goal

abbrev pub invariant-loop-arg : goal.invariant-loop-arg
invariant-loop-arg l = head_terms l.atoms l.facts l.head ≡ option_map (λ rest. l.terms ++ rest) (head_terms l.atoms l.facts (drop l.arg-index l.head))
