-- No fact so far can be had with the rest.
use Rattle.std.proofs.Common.{◌≡◌, ◌+◌, ◌*◌, ◌<◌, ◌∷◌, [], ◌++◌, ℕ, Some, length}
use Rattle.std.specs.Prelude.{slice_get}
use Rattle.vocabulary.specs.declared.term.Fact.{Fact}
use Rattle.why_answers.specs.Finding.{NoneReads}
use Rattle.why_answers.proofs.finding.+search.Given as goal

abbrev pub decreases-attempt : goal.decreases-attempt
decreases-attempt l = 2 * length l.rest.now + 1

abbrev pub decreases-search : goal.decreases-search
decreases-search l = 2 * length l.rest.now

abbrev pub invariant-search-loop-at : goal.invariant-search-loop-at
invariant-search-loop-at l = (j : ℕ) (f : Fact) → j < l.at → slice_get l.facts j ≡ Some f → NoneReads l.atoms l.facts (l.named ++ f ∷ [])
