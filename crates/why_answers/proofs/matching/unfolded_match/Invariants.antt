-- No row query so far has a tuple.
use Rattle.std.proofs.Common.{◌≡◌, [], take}
use Rattle.vocabulary.specs.Lists.{In}
use Rattle.mapping_facts.specs.RowQueries.{row_tuples}
use Rattle.mapping_unfolding.specs.declared.unfolded.Unfolded.{Unfolded}
use Rattle.why_answers.proofs.matching.unfolded_match.Given as goal

abbrev pub invariant-loop-unfolded : goal.invariant-loop-unfolded
invariant-loop-unfolded l = (u : Unfolded) → In u (take l.unfolded-index l.unfolded-items) → row_tuples l.tables u.rows ≡ []
