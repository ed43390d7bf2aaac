use Rattle.std.proofs.Common.{◌≡◌, drop}
use Rattle.mapping_unfolding.specs.Drafts.{lookup}
use Rattle.mapping_unfolding.proofs.put.find.Given as goal

abbrev pub invariant-loop-binding : goal.invariant-loop-binding
invariant-loop-binding l = lookup l.fn.var (drop l.binding-index l.fn.bound) ≡ lookup l.fn.var l.fn.bound
