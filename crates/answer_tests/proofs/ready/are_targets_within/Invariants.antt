-- The targets of the mappings so far are within.
use Rattle.std.proofs.Common.{take}
use Rattle.vocabulary.specs.Lists.{In}
use Rattle.mapping_facts.specs.declared.mapping.Mapping.{Mapping}
use Rattle.mapping_facts.specs.Within.{AreTargetsWithin}
use Rattle.answer_tests.proofs.ready.are_targets_within.Given as goal

abbrev pub invariant-loop-mapping : goal.invariant-loop-mapping
invariant-loop-mapping l = (m : Mapping) → In m (take l.mapping-index l.mappings) → AreTargetsWithin 199 9 m.targets
