use Rattle.std.proofs.Common.{◌≡◌}
use Rattle.std.proofs.lemmas.Result.{IfOk-weaker}
use Rattle.answer_text.specs.Queries.{queries_report}
use Rattle.onprom_core.specs.Jobs.{printed}
use Rattle.onprom_core.specs.Outputs.{ended}
use Rattle.onprom_core.specs.Rewritten.{PrintsKept, done_with}
use Rattle.onprom_core.proofs.rewriting.rewritten.Goals as goal

pub returns-clause-prints : goal.returns-clause-prints
returns-clause-prints c =
    let kept = c.in_ok-kept.kept in
    let e = c.in_ok-kept.ensures in
    IfOk-weaker c.listed.result (λ o. ended o ≡ done_with (printed c.args.project.now c.args.name.now kept) (queries_report kept))
    (λ o. PrintsKept c.args.project.now c.args.name.now c.args.members (ended o))
    (λ o is. record { kept = kept; are_kept = e.kept; none_maps = e.none_maps; images = e.images; end = is })
    (rw c.items.ensures at c.listed.ensures.end)
