-- The folds before this place have no match, and theirs are there.
use Rattle.std.proofs.Common.{◌-◌, ◌^◌}
use Rattle.mapping_facts.specs.Facts.{mapped_facts}
use Rattle.why_answers.specs.Folding.{Searched}
use Rattle.why_answers.proofs.folding.search.Given as goal

abbrev pub invariant-loop-at : goal.invariant-loop-at
invariant-loop-at l = Searched l.downs.axioms l.query (mapped_facts l.mappings l.tables) l.nodes l.at

abbrev pub decreases-loop-at : goal.decreases-loop-at
decreases-loop-at l = 2 ^ 64 - l.at
