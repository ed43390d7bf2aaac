use Rattle.onprom_core.proofs.WhyRuns.{explained_from}
use Rattle.onprom_core.proofs.querying.explain_by.Goals as goal

pub returns-clause-told : goal.returns-clause-told
returns-clause-told g c =
    explained_from (g.S.Shelf.held c.args.shelf.now) c.args.project.now c.in_ok-tables.tables c.args.query.now c.args.number c.in_ok-output.output
    (rw c.tables.ensures at c.in_ok-tables.ensures.told) (rw c.items.ensures at c.in_ok-output.ensures.ends)
