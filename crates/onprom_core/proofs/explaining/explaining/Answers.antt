use Rattle.std.proofs.Common.{◌≡◌}
use Rattle.std.proofs.lemmas.Result.{IfOk-weaker}
use Rattle.onprom_core.specs.Explained.{EndsExplaining}
use Rattle.onprom_core.specs.Jobs.{EndsWhy, too_wide, wide_end}
use Rattle.onprom_core.specs.Outputs.{ended}
use Rattle.onprom_core.proofs.WhyRuns.{ends_explained}
use Rattle.onprom_core.proofs.explaining.explaining.Goals as goal

pub numbered-requires-clause-listed : goal.numbered-requires-clause-listed
numbered-requires-clause-listed c = rw c.items.ensures (rw c.in_ok-specification.ensures at c.in-Ok.ensures.answers)

pub returns-in-Ok-clause-ends : goal.returns-in-Ok-clause-ends
returns-in-Ok-clause-ends c =
    IfOk-weaker c.numbered.result (λ o. EndsExplaining c.args.project.now c.args.tables.now c.args.query.now c.in-Ok.found.tuples c.args.number (ended o))
    (λ o. EndsWhy c.args.project.now c.args.tables.now c.args.query.now c.args.number (ended o))
    (λ o is. ends_explained c.args.project.now c.args.tables.now c.args.query.now c.args.number (rw c.in_ok-specification.ensures at c.in-Ok.ensures.narrow)
    c.in-Ok.found.tuples (ended o) (rw c.in_ok-specification.ensures at c.in-Ok.ensures.answers) is)
    (rw c.items.ensures at c.numbered.ensures.ends)

pub returns-in-Err-TooWide-clause-ends : goal.returns-in-Err-TooWide-clause-ends
returns-in-Err-TooWide-clause-ends c =
    IfOk-weaker c.too_wide.result (λ o. ended o ≡ wide_end) (λ o. EndsWhy c.args.project.now c.args.tables.now c.args.query.now c.args.number (ended o))
    (λ o is. too_wide (rw c.in_ok-specification.ensures at (c.in-Err-TooWide.ensures.wide c.in-Err-TooWide.field-0-is)) is)
    c.too_wide.ensures.end
