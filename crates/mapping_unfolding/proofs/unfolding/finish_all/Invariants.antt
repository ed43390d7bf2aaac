use Rattle.std.proofs.Common.{◌≡◌, ◌++◌, map}
use Rattle.mapping_unfolding.specs.Drafts.{unfolded_of}
use Rattle.mapping_unfolding.proofs.unfolding.finish_all.Given as goal

abbrev pub invariant-loop-draft : goal.invariant-loop-draft
invariant-loop-draft l = l.list ++ map (unfolded_of l.head) l.draft-iterator.rest.items ≡ map (unfolded_of l.head) l.fn.drafts.items
