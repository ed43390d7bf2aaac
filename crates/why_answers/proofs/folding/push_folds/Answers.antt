-- One step after the other.
use Rattle.std.proofs.Common.{subst}
use Rattle.std.proofs.lemmas.List.{take_all}
use Rattle.why_answers.specs.Folding.{AddsFolds}
use Rattle.why_answers.proofs.Searching.{adds_more, adds_start}
use Rattle.why_answers.proofs.folding.push_folds.Goals as goal

pub loop-step-init : goal.loop-step-init
loop-step-init c = adds_start c.args.from c.args.nodes.now

pub loop-step-preserved : goal.loop-step-preserved
loop-step-preserved c =
    adds_more c.args.from c.args.steps.now c.loop-step.step-index c.step-item.result c.args.nodes.now c.loop-step.nodes c.push_fold.new.nodes c.loop-step-test.true c.step-item.is c.loop-step.invariant c.in_ok-push_fold.ensures

pub returns : goal.returns
returns c = subst (λ ss. AddsFolds c.args.from ss c.args.nodes.now c.loop-step.nodes) (take_all c.loop-step.step-index c.args.steps.now c.loop-step-test.false) c.loop-step.invariant
