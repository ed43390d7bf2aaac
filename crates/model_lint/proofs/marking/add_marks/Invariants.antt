-- The marks so far are the old ones, and those of the sources so far.
use Rattle.std.proofs.Common.{take}
use Rattle.model_lint.proofs.Marked.{AreAdded}
use Rattle.model_lint.proofs.marking.add_marks.Given as goal

abbrev pub invariant-loop-source : goal.invariant-loop-source
invariant-loop-source l = AreAdded l.initial.marks l.number (take l.source-index l.source-items) l.marks
