-- The variable does not stand before the place.
use Rattle.std.proofs.Common.{take}
use Rattle.vocabulary.specs.Lists.{In}
use Rattle.relation_join.proofs.value.stands_in.Given as goal

abbrev pub invariant-loop-other : goal.invariant-loop-other
invariant-loop-other l = In l.fn.var (take l.other-index l.fn.vars) → ⊥
