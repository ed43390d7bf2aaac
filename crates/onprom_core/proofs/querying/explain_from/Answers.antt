use Rattle.onprom_core.proofs.WhyRuns.{why_query}
use Rattle.onprom_core.proofs.querying.explain_from.Goals as goal

pub returns-clause-told : goal.returns-clause-told
returns-clause-told g c =
    why_query (g.S.Shelf.held c.args.shelf.now) c.args.project.now c.args.name.now c.args.number c.in_ok-query.query.now c.explain_by.result
    c.in_ok-query.ensures.told c.explain_by.ensures.told
