use Rattle.std.proofs.Common.{refl, codes}
use Rattle.big_project.specs.Files.{made_files}
use Rattle.onprom_core.proofs.MadeWalk.{made_ends, made_stops}
use Rattle.onprom_core.proofs.making.extracted.Goals as goal

pub returns-in-Ok-clause-ends : goal.returns-in-Ok-clause-ends
returns-in-Ok-clause-ends c =
    made_ends c.in_ok-shelf.shelf.opened.files (made_files c.args.docs) (codes "project.txt") c.in-Ok.output c.in_ok-shelf.ensures c.in-Ok.ensures.told

pub returns-in-Err-Stopped-clause-well : goal.returns-in-Err-Stopped-clause-well
returns-in-Err-Stopped-clause-well c =
    made_stops c.args.docs c.in_ok-shelf.shelf.opened.files c.in-Err-Stopped.field-0 c.in-Err-Stopped.stopped _
    c.in_ok-shelf.shelf.absences c.extract.new.shelf.absences c.in_ok-shelf.ensures c.in-Err-Stopped.field-0-is
    c.in-Err-Stopped.ensures.told c.in-Err-Stopped.ensures.counts.halted c.in-Err-Stopped.ensures.usage refl c.none.ensures
