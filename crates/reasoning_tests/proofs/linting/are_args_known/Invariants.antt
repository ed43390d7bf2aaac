-- The constants so far are known.
use Rattle.std.proofs.Common.{take}
use Rattle.vocabulary.specs.Lists.{In}
use Rattle.queries.specs.declared.query.Arg.{Arg}
use Rattle.queries.specs.Occurrences.{KnownArg}
use Rattle.reasoning_tests.proofs.linting.are_args_known.Given as goal

abbrev pub invariant-loop-x : goal.invariant-loop-x
invariant-loop-x l = (x : Arg) → In x (take l.x-index l.args) → KnownArg x
