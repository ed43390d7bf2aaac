use Rattle.std.proofs.Common.{◌≡◌}
use Rattle.std.proofs.lemmas.Result.{IfOk-weaker}
use Rattle.onprom_core.specs.Jobs.{EndsRewriting, wide_end}
use Rattle.onprom_core.specs.Outputs.{ended}
use Rattle.onprom_core.specs.Rewritten.{PrintsKept}
use Rattle.onprom_core.proofs.Finding.{ends_rewritten, rewrites_too_wide}
use Rattle.onprom_core.proofs.rewriting.rewriting.Goals as goal

pub returns-in-Ok-clause-ends : goal.returns-in-Ok-clause-ends
returns-in-Ok-clause-ends c =
    IfOk-weaker c.rewritten.result (λ o. PrintsKept c.args.project.now c.args.name.now c.in-Ok.members (ended o))
    (λ o. EndsRewriting c.args.project.now c.args.name.now c.args.query.now (ended o))
    (λ o prints. ends_rewritten c.args.project.now c.args.name.now c.args.query.now c.in_ok-tbox.tbox c.in_ok-tbox.ensures.tbox
    c.in-Ok.members (ended o) c.requires.askable c.in-Ok.ensures.members c.in-Ok.ensures.narrow c.in-Ok.ensures.answers prints)
    c.rewritten.ensures.prints

pub returns-in-Err-TooWide-clause-ends : goal.returns-in-Err-TooWide-clause-ends
returns-in-Err-TooWide-clause-ends c =
    IfOk-weaker c.too_wide.result (λ o. ended o ≡ wide_end) (λ o. EndsRewriting c.args.project.now c.args.name.now c.args.query.now (ended o))
    (λ o is. rewrites_too_wide c.args.project.now c.args.name.now c.args.query.now c.in_ok-tbox.tbox c.in_ok-tbox.ensures.tbox
    (ended o) (c.in-Err-TooWide.ensures.wide c.in-Err-TooWide.field-0-is) is)
    c.too_wide.ensures.end
