use Rattle.std.proofs.Common.{◌≡◌}
use Rattle.std.proofs.lemmas.Result.{IfOk-weaker}
use Rattle.onprom_core.specs.Extracted.{ExtractedFrom}
use Rattle.onprom_core.specs.Jobs.{EndsExtraction, wide_end}
use Rattle.onprom_core.specs.Outputs.{ended}
use Rattle.onprom_core.proofs.Extracting.{ends_too_wide, ends_with_log}
use Rattle.onprom_core.proofs.extraction.logged.Goals as goal

pub returns-in-Ok-clause-ends : goal.returns-in-Ok-clause-ends
returns-in-Ok-clause-ends c =
    IfOk-weaker c.extracted.result (λ o. ExtractedFrom c.args.project.now c.in-Ok.asked (ended o)) (λ o. EndsExtraction c.args.project.now c.args.tables.now (ended o))
    (λ o from. ends_with_log c.args.project.now c.args.tables.now c.in_ok-specification.specification c.notes-notes.result.now c.requires.consistent
    c.in_ok-specification.ensures c.notes-notes.ensures c.in-Ok.asked (ended o) c.in-Ok.ensures.asked c.in-Ok.ensures.narrow from)
    c.extracted.ensures.extracted

pub returns-in-Err-TooWide-clause-ends : goal.returns-in-Err-TooWide-clause-ends
returns-in-Err-TooWide-clause-ends c =
    IfOk-weaker c.too_wide.result (λ o. ended o ≡ wide_end) (λ o. EndsExtraction c.args.project.now c.args.tables.now (ended o))
    (λ o is. ends_too_wide c.args.project.now c.args.tables.now c.in_ok-specification.specification c.notes-notes.result.now c.requires.consistent
    c.in_ok-specification.ensures c.notes-notes.ensures (ended o) (c.in-Err-TooWide.ensures.wide c.in-Err-TooWide.field-0-is) is)
    c.too_wide.ensures.end
