-- What is left decides.
use Rattle.std.proofs.Common.{◌≡◌, drop}
use Rattle.line_lexer.specs.Judging.{first_passed}
use Rattle.annotation_language.proofs.rules.first_passed.Given as goal

abbrev pub invariant-loop-counted : goal.invariant-loop-counted
invariant-loop-counted l = first_passed (drop l.counted-index l.counts) ≡ first_passed l.counts
