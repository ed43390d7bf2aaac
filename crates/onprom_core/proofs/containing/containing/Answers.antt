use Rattle.std.proofs.Common.{◌≡◌}
use Rattle.std.proofs.lemmas.Result.{IfOk-weaker}
use Rattle.answer_text.specs.Containment.{containment_report, containment_text}
use Rattle.onprom_core.specs.Jobs.{EndsContainment, wide_end}
use Rattle.onprom_core.specs.Outputs.{ended}
use Rattle.onprom_core.specs.Rewritten.{done_with}
use Rattle.onprom_core.proofs.ModelRuns.{compares_too_wide, ends_compared}
use Rattle.onprom_core.proofs.containing.containing.Goals as goal

pub returns-in-Ok-clause-ends : goal.returns-in-Ok-clause-ends
returns-in-Ok-clause-ends c =
    IfOk-weaker c.said.result (λ o. ended o ≡ done_with (containment_text c.in-Ok.place) (containment_report c.in-Ok.place))
    (λ o. EndsContainment c.args.project.now c.args.first.now c.args.second.now (ended o))
    (λ o is. ends_compared c.args.project.now c.args.first.now c.args.second.now c.in_ok-tbox.tbox c.in_ok-tbox.ensures.tbox
    c.in-Ok.place (ended o) c.in-Ok.ensures.contained c.in-Ok.ensures.covered c.in-Ok.ensures.narrow is)
    c.said.ensures.end

pub returns-in-Err-TooWide-clause-ends : goal.returns-in-Err-TooWide-clause-ends
returns-in-Err-TooWide-clause-ends c =
    IfOk-weaker c.too_wide.result (λ o. ended o ≡ wide_end) (λ o. EndsContainment c.args.project.now c.args.first.now c.args.second.now (ended o))
    (λ o is. compares_too_wide c.args.project.now c.args.first.now c.args.second.now c.in_ok-tbox.tbox c.in_ok-tbox.ensures.tbox
    (ended o) (c.in-Err-TooWide.ensures.wide c.in-Err-TooWide.field-0-is) is)
    c.too_wide.ensures.end
