-- By `Marked`.
use Rattle.std.proofs.Common.{◌≡◌, sym, ◌∙◌, subst, true, false}
use Rattle.std.proofs.lemmas.List.{take_all}
use Rattle.vocabulary.specs.Lists.{In}
use Rattle.dllite_axioms.specs.declared.axioms.Basic.TheVariants.{Class}
use Rattle.model_lint.proofs.Marked.{found_mark, not_marked}
use Rattle.model_lint.proofs.marking.mark_at.Goals as goal

pub returns-then-is_basic : goal.returns-then-is_basic
returns-then-is_basic c = found_mark c.args.basic c.args.marks.now c.loop-mark.mark-index (Class (record { 0 = 0 }), 0) c.loop-mark-test.true (c.is_basic.ensures.0 c.if-is_basic.true)

pub loop-mark-preserved : goal.loop-mark-preserved
loop-mark-preserved c =
    not_marked c.args.basic c.args.marks.now c.loop-mark.mark-index (Class (record { 0 = 0 }), 0) c.loop-mark-test.true
    (λ e. let wrong : true ≡ false = sym (c.is_basic.ensures.1 e) ∙ c.if-is_basic.false in absurd cc) c.loop-mark.invariant

pub returns : goal.returns
returns c = λ n m. c.loop-mark.invariant n (subst (In (c.args.basic, n)) (sym (take_all c.loop-mark.mark-index c.args.marks.now c.loop-mark-test.false)) m)
