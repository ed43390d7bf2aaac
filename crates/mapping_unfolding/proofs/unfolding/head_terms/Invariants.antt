use Rattle.std.proofs.Common.{◌≡◌, filter_map, take}
use Rattle.mapping_unfolding.specs.Drafts.{head_term}
use Rattle.mapping_unfolding.proofs.unfolding.head_terms.Given as goal

abbrev pub invariant-loop-arg : goal.invariant-loop-arg
invariant-loop-arg l = l.terms ≡ filter_map (head_term l.bound) (take l.arg-index l.head)
