use Rattle.std.proofs.Common.{subst, sym}
use Rattle.mapping_facts.specs.Fits.{RowQueryFits}
use Rattle.table_renumbering.specs.Tuples.{LeadsBack, LeadsForth}
use Rattle.table_renumbering.proofs.Moved.{leads_back, leads_forth, moved_fits}
use Rattle.table_renumbering.proofs.renumbering.renumber.Goals as goal

pub returns-clause-fits : goal.returns-clause-fits
returns-clause-fits c = subst RowQueryFits (sym c.in_ok-moved.ensures) (moved_fits c.args.order.now c.args.places.now c.args.query.now c.requires.fits c.requires.numbers)

pub returns-clause-back : goal.returns-clause-back
returns-clause-back c = subst (LeadsBack c.args.places.now c.args.query.now) (sym c.in_ok-moved.ensures) (leads_back c.args.order.now c.args.places.now c.args.query.now c.requires.fits c.requires.numbers)

pub returns-clause-forth : goal.returns-clause-forth
returns-clause-forth c = subst (LeadsForth c.args.order.now c.args.places.now c.args.query.now) (sym c.in_ok-moved.ensures) (leads_forth c.args.order.now c.args.places.now c.args.query.now c.requires.fits c.requires.numbers)
