use Rattle.std.proofs.Common.{◌≡◌}
use Rattle.std.proofs.lemmas.Result.{IfOk-weaker}
use Rattle.answer_text.specs.Answers.{answers_report, answers_text}
use Rattle.onprom_core.specs.Jobs.{EndsAnswering, wide_end}
use Rattle.onprom_core.specs.Outputs.{ended}
use Rattle.onprom_core.specs.Rewritten.{done_with}
use Rattle.onprom_core.proofs.Finding.{answers_too_wide, ends_answered}
use Rattle.onprom_core.proofs.answering.answering.Goals as goal

pub returns-in-Ok-clause-ends : goal.returns-in-Ok-clause-ends
returns-in-Ok-clause-ends c =
    IfOk-weaker c.answered.result (λ o. ended o ≡ done_with (answers_text c.in-Ok.found.tuples) (answers_report c.in-Ok.found.tuples))
    (λ o. EndsAnswering c.args.project.now c.args.tables.now c.args.query.now (ended o))
    (λ o is. ends_answered c.args.project.now c.args.tables.now c.args.query.now c.in_ok-specification.specification
    c.in_ok-specification.ensures c.in-Ok.found.tuples (ended o) c.in-Ok.ensures.answers c.in-Ok.ensures.narrow is)
    (rw c.items.ensures at c.answered.ensures.end)

pub returns-in-Err-TooWide-clause-ends : goal.returns-in-Err-TooWide-clause-ends
returns-in-Err-TooWide-clause-ends c =
    IfOk-weaker c.too_wide.result (λ o. ended o ≡ wide_end) (λ o. EndsAnswering c.args.project.now c.args.tables.now c.args.query.now (ended o))
    (λ o is. answers_too_wide c.args.project.now c.args.tables.now c.args.query.now c.in_ok-specification.specification
    c.in_ok-specification.ensures (ended o) (c.in-Err-TooWide.ensures.wide c.in-Err-TooWide.field-0-is) is)
    c.too_wide.ensures.end
