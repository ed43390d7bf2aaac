-- What is left decides.
use Rattle.std.proofs.Common.{◌≡◌, [], drop}
use Rattle.line_lexer.specs.Judging.{first_broken}
use Rattle.annotation_language.proofs.rules.first_broken.Given as goal

abbrev pub invariant-loop-rule : goal.invariant-loop-rule
invariant-loop-rule l = first_broken (drop l.rule-index l.rules) [] ≡ first_broken l.rules []
