-- By `Found`.
use Rattle.std.proofs.Common.{◌≡◌, ◌+◌, sym, subst, arith}
use Rattle.model_lint.specs.Voids.{HaveAttributes, IsVoid, Shows}
use Rattle.model_lint.proofs.Found.{all_voids, AreVoidsBelow, none_below, not_below, one_below}
use Rattle.model_lint.proofs.finding.voids.Goals as goal
use Rattle.model_lint.proofs.finding.voids.Goals.{in-Some+in_ok-push, in_default}

pub loop-number-init : goal.loop-number-init
loop-number-init c = subst (AreVoidsBelow c.args.tbox.now c.args.classes 0) (sym c.new-proofs.ensures) (none_below c.args.tbox.now c.args.classes)

pub loop-number-preserved : goal.loop-number-preserved
loop-number-preserved c =
    let tbox = c.args.tbox.now in
    elim c.match-branch-4.branch [
      | in-Some+in_ok-push w ↦ subst (AreVoidsBelow tbox c.args.classes (c.loop-number.number + 1)) (sym w.proofs-is)
          (one_below tbox c.args.classes c.loop-number.number c.loop-number.proofs w.push.new.self w.in-Some.proof c.loop-number.invariant
          (subst (λ v. Shows tbox w.in-Some.proof × (w.in-Some.proof.what ≡ v)) c.element-what.ensures (rw w.in-Some.is at c.in_ok-proof.ensures)) w.in_ok-push.ensures.ok)
      | in_default w ↦ subst (AreVoidsBelow tbox c.args.classes (c.loop-number.number + 1)) (sym w.proofs-is)
          (not_below tbox c.args.classes c.loop-number.number c.loop-number.proofs c.loop-number.invariant
          (subst (λ v. HaveAttributes tbox.constraints → IsVoid tbox v → ⊥) c.element-what.ensures (rw w.in_default.is at c.in_ok-proof.ensures)))
    ]

pub returns : goal.returns
returns c = all_voids c.args.tbox.now c.args.classes c.args.links c.loop-number.number c.loop-number.proofs (omega (arith, c.loop-number-test.false, c.loop-number.auto.number-end)) c.loop-number.invariant
