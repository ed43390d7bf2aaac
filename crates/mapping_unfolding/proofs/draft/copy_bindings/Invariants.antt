use Rattle.std.proofs.Common.{◌≡◌, take}
use Rattle.mapping_unfolding.proofs.draft.copy_bindings.Given as goal

abbrev pub invariant-loop-binding : goal.invariant-loop-binding
invariant-loop-binding l = l.copies ≡ take l.binding-index l.bound
