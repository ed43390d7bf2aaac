-- By `Marked`.
use Rattle.std.proofs.Common.{sym, subst, refl, arith, length}
use Rattle.std.proofs.lemmas.Option.{slice_get_read}
use Rattle.vocabulary.specs.Lists.{In}
use Rattle.negative_closure.proofs.Places.{In-at}
use Rattle.model_lint.proofs.Marked.{more_marks}
use Rattle.model_lint.proofs.marking.marks_of.Goals as goal

pub add_marks-requires : goal.add_marks-requires
add_marks-requires c =
    c.requires.within c.index-constraints-at.result
    (subst (λ z. In z c.args.constraints.now) (sym c.index-constraints-at.is) (In-at c.args.constraints.now c.loop-at.at c.index-constraints-at.result (omega (arith, c.loop-at-test.true))))

pub loop-at-preserved : goal.loop-at-preserved
loop-at-preserved c =
    let xs = c.args.constraints.now in
    more_marks c.args.downs.now.axioms xs c.loop-at.at c.index-constraints-at.result c.loop-at.marks c.add_marks.new.marks (slice_get_read xs (length xs) c.loop-at.at c.index-constraints-at.result refl (omega (arith, c.loop-at-test.true)) c.index-constraints-at.is)
    c.loop-at.invariant c.in_ok-add_marks.ensures
