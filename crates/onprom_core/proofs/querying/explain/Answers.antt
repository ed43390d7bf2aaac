use Rattle.onprom_core.proofs.WhyRuns.{why_from}
use Rattle.onprom_core.proofs.querying.explain.Goals as goal

pub returns-clause-told : goal.returns-clause-told
returns-clause-told g c =
    why_from (g.S.Shelf.held c.args.shelf.now) c.args.name.now c.in_ok-project.project c.args.query.now c.args.number c.explain_from.result
    c.in_ok-project.ensures.told (rw c.project_read.ensures.held at c.explain_from.ensures.told)
