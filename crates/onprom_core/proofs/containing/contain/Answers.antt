use Rattle.onprom_core.proofs.Asking.{counts_local}
use Rattle.onprom_core.proofs.ModelRuns.{contained_from}
use Rattle.onprom_core.proofs.containing.contain.Goals as goal

pub returns-clause-told : goal.returns-clause-told
returns-clause-told g c =
    contained_from (g.S.Shelf.held c.args.shelf.now) c.args.name.now c.in_ok-project.project c.args.first.now c.args.second.now c.contain_from.result
    c.in_ok-project.ensures.told c.contain_from.ensures.told

pub returns-clause-counts : goal.returns-clause-counts
returns-clause-counts g c =
    counts_local (g.S.Shelf.faults c.args.shelf.now) (g.S.Shelf.faults c.project_read.new.shelf) (g.S.Shelf.absences c.args.shelf.now) (g.S.Shelf.absences c.project_read.new.shelf)
    (g.S.Shelf.failed c.project_read.new.shelf) c.contain_from.result c.in_ok-project.ensures.counts.no_fault c.in_ok-project.ensures.counts.no_absence c.contain_from.ensures.local
