-- The targets so far are within.
use Rattle.std.proofs.Common.{take}
use Rattle.mapping_facts.specs.Within.{AreTargetsWithin}
use Rattle.checking_tests.proofs.within.are_all_within.Given as goal

abbrev pub invariant-loop-target : goal.invariant-loop-target
invariant-loop-target l = AreTargetsWithin 10 10 (take l.target-index l.targets)
