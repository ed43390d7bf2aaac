use Rattle.onprom_core.proofs.Walks.{given_stops}
use Rattle.onprom_core.proofs.reading.project_read.Goals as goal

pub returns-in_err-given-clause-told : goal.returns-in_err-given-clause-told
returns-in_err-given-clause-told g c =
    given_stops (g.S.Shelf.held c.args.shelf.now) c.args.name.now c.in_ok-bytes.bytes c.in_err-given.field-0.0 c.from_residual-in_err-given.result c.from_residual-in_err-given.ensures.1
    c.in_ok-bytes.ensures.told (rw (c.read_named.ensures.held, c.slice.ensures) at c.in_err-given.ensures.told)
