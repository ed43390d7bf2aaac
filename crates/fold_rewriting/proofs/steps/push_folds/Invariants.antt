-- The steps by the left sides so far.
use Rattle.std.proofs.Common.{◌≡◌, ◌++◌, map, take}
use Rattle.fold_rewriting.specs.Found.{told}
use Rattle.fold_rewriting.proofs.steps.push_folds.Given as goal

abbrev pub invariant-loop-left : goal.invariant-loop-left
invariant-loop-left l = l.steps ≡ l.initial.steps ++ map (told l.birth l.at l.end l.cut) (take l.left-index l.lefts)
