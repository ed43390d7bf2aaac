-- By `Marked`.
use Rattle.std.proofs.Common.{◌+◌, sym, subst, take}
use Rattle.dllite_axioms.specs.declared.axioms.Basic.TheVariants.{Class}
use Rattle.negative_closure.specs.declared.source.Source.TheVariants.{One}
use Rattle.model_lint.proofs.Marked.{AreAdded, one_added, other_added}
use Rattle.model_lint.proofs.marking.add_marks.Goals as goal
use Rattle.model_lint.proofs.marking.add_marks.Goals.{in-One+in_ok-push, in_default}

pub loop-source-preserved : goal.loop-source-preserved
loop-source-preserved c =
    let old = c.args.marks.now in
    let sources = c.items-source-items.result.now in
    let i = c.loop-source.source-index in
    elim c.match-source.branch [
      | in-One+in_ok-push w ↦ (
          subst (AreAdded old c.args.number (take (i + 1) sources)) (sym w.marks-is)
          (one_added old c.args.number sources i (One (Class (record { 0 = 0 }))) w.in-One.basic c.loop-source.marks w.push.new.self c.loop-source-test.true w.in-One.is w.in_ok-push.ensures.ok c.loop-source.invariant))
      | in_default w ↦ (
          subst (AreAdded old c.args.number (take (i + 1) sources)) (sym w.marks-is)
          (other_added old c.args.number sources i (One (Class (record { 0 = 0 }))) c.loop-source.marks c.loop-source-test.true w.in_default.not-One c.loop-source.invariant))
    ]
