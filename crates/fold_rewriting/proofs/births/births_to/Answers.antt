-- By `Bearing`.
use Rattle.std.proofs.Common.{◌∙◌, sym, Some, None, append-nil}
use Rattle.dllite_axioms.specs.declared.axioms.Basic.TheVariants.{Class, Has}
use Rattle.fold_rewriting.proofs.Bearing.{birth_more}
use Rattle.fold_rewriting.proofs.births.births_to.Goals as goal
use Rattle.fold_rewriting.proofs.births.births_to.Goals.{in-Has+in_ok-push, in_default}

pub loop-basic-preserved : goal.loop-basic-preserved
loop-basic-preserved c =
    let i = c.loop-basic.basic-index in
    elim c.match-basic.branch [
      | in-Has+in_ok-push w ↦
          birth_more c.args.basics.now i _ (Has w.in-Has.link w.in-Has.dir) c.loop-basic.births c.match-basic.births (Some (w.in-Has.link, w.opposite.result)) c.loop-basic-test.true (sym w.in-Has.is) c.loop-basic.invariant
          (λ j. Some (w.in-Has.link, sym w.opposite.ensures j)) (w.births-is ∙ w.in_ok-push.ensures.ok)
      | in_default w ↦
          birth_more c.args.basics.now i _ (Class w.in_default.field-0) c.loop-basic.births c.match-basic.births None c.loop-basic-test.true (sym w.in_default.is) c.loop-basic.invariant (λ j. None) (w.births-is ∙ sym (append-nil c.loop-basic.births))
    ]
