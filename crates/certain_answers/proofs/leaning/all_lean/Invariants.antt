-- The queries so far.
use Rattle.std.proofs.Common.{take}
use Rattle.certain_answers.specs.Lean.{AllLean}
use Rattle.certain_answers.proofs.leaning.all_lean.Given as goal

abbrev pub invariant-loop-query : goal.invariant-loop-query
invariant-loop-query l = AllLean l.downs.axioms (take l.query-index l.queries) l.leans
