-- The targets of the mappings so far are marked.
use Rattle.std.proofs.Common.{take}
use Rattle.vocabulary.specs.Lists.{In}
use Rattle.mapping_facts.specs.declared.mapping.Target.{Target}
use Rattle.mapping_facts.specs.declared.mapping.Mapping.{Mapping}
use Rattle.consistency_check.specs.Given.{IsMarked}
use Rattle.consistency_check.proofs.given.Given.by.Given as goal

abbrev pub invariant-loop-mapping : goal.invariant-loop-mapping
invariant-loop-mapping l = (m : Mapping) → In m (take l.mapping-index l.mappings) → (g : Target) → In g m.targets → IsMarked l.given g
