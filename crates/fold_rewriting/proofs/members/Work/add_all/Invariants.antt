-- The queries that are left, and those that were added.
use Rattle.std.proofs.Common.{length}
use Rattle.perfect_rewriting.proofs.Adding.{Adding}
use Rattle.fold_rewriting.proofs.Working.{queries}
use Rattle.fold_rewriting.proofs.members.Work.add_all.Given as goal

abbrev pub invariant-loop-query : goal.invariant-loop-query
invariant-loop-query l = Adding l.initial.self.found.items l.initial.self.pending.items (queries l.fn.steps.items) (queries l.steps.items) l.self.found.items l.self.pending.items

abbrev pub decreases-loop-query : goal.decreases-loop-query
decreases-loop-query l = length l.steps.items
