-- The births to the basics so far.
use Rattle.std.proofs.Common.{◌≡◌, take, filter_map}
use Rattle.fold_rewriting.specs.Births.{birth_to}
use Rattle.fold_rewriting.proofs.births.births_to.Given as goal

abbrev pub invariant-loop-basic : goal.invariant-loop-basic
invariant-loop-basic l = l.births ≡ filter_map birth_to (take l.basic-index l.basics)
