-- The targets so far are marked, and what was marked still is.
use Rattle.std.proofs.Common.{take}
use Rattle.vocabulary.specs.Lists.{In}
use Rattle.mapping_facts.specs.declared.mapping.Target.{Target}
use Rattle.consistency_check.specs.Given.{IsMarked}
use Rattle.consistency_check.proofs.given.Given.mark_all.Given as goal

abbrev pub invariant-loop-target : goal.invariant-loop-target
invariant-loop-target l = record {
  marked : (g : Target) → In g (take l.target-index l.targets) → IsMarked l.self g;
  kept : (g : Target) → IsMarked l.initial.self g → IsMarked l.self g;
}
