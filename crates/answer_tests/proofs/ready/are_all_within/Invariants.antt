-- The targets so far are within.
use Rattle.std.proofs.Common.{take}
use Rattle.mapping_facts.specs.Within.{AreTargetsWithin}
use Rattle.answer_tests.proofs.ready.are_all_within.Given as goal

abbrev pub invariant-loop-target : goal.invariant-loop-target
invariant-loop-target l = AreTargetsWithin 199 9 (take l.target-index l.targets)
