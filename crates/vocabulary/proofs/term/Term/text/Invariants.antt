-- What is left has the same text.
use Rattle.std.proofs.Common.{◌≡◌}
use Rattle.vocabulary.specs.Terms.{text_of}
use Rattle.vocabulary.proofs.term.Term.text.Given as goal

abbrev pub invariant-loop-term : goal.invariant-loop-term
invariant-loop-term l = text_of l.term ≡ text_of l.self
