-- What is left decides, behind the facts so far.
use Rattle.std.proofs.Common.{◌≡◌, ◌++◌, drop}
use Rattle.std.specs.Prelude.{option_map}
use Rattle.why_answers.specs.Matching.{origin_facts}
use Rattle.why_answers.proofs.matching.origin_facts.Given as goal

abbrev pub invariant-loop-origin : goal.invariant-loop-origin
invariant-loop-origin l = origin_facts l.mappings l.tables l.tuple l.origins ≡ option_map (λ rest. l.facts ++ rest) (origin_facts l.mappings l.tables l.tuple (drop l.origin-index l.origins))
