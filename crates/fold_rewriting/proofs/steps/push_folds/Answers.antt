-- By `Pushing`.
use Rattle.std.proofs.Common.{get_or}
use Rattle.dllite_axioms.specs.declared.axioms.Basic.{Basic}
use Rattle.dllite_axioms.specs.declared.axioms.Basic.TheVariants.{Class}
use Rattle.fold_rewriting.proofs.Pushing.{folds_more}
use Rattle.fold_rewriting.proofs.steps.push_folds.Goals as goal

pub loop-left-preserved : goal.loop-left-preserved
loop-left-preserved c =
    let n = c.loop-left.left-index in
    let none : Basic = Class (record { 0 = 0 }) in
    folds_more c.args.birth c.args.at c.args.end c.args.cut.now c.args.lefts.now n none c.args.steps.now c.loop-left.steps c.push.new.self
    (record { link = c.args.birth.0; dir = c.args.birth.1; left = get_or c.args.lefts.now n none; atom = c.args.at; end = c.args.end }, c.in_ok-folded.field-0) c.loop-left-test.true c.loop-left.invariant
    (λ j. (record { link = c.args.birth.0; dir = c.args.birth.1; left = get_or c.args.lefts.now n none; atom = c.args.at; end = c.args.end }, c.in_ok-folded.ensures j)) c.in_ok-push.ensures.ok
