use Rattle.std.proofs.Common.{sym}
use Rattle.onprom_core.proofs.Asking.{named_askable}
use Rattle.onprom_core.proofs.querying.found.Goals as goal

pub returns-in-Some-clause-askable : goal.returns-in-Some-clause-askable
returns-in-Some-clause-askable c =
    named_askable c.args.project.now.noted.notes c.requires.askable c.in-Some.query.now c.args.name.now
    (sym (rw c.notes.ensures at c.in-Some.ensures))
