use Rattle.mapping_facts.specs.declared.term.RowTerm.TheVariants.{Cell, Fixed}
use Rattle.mapping_unfolding.proofs.Equating.{turned_call}
use Rattle.mapping_unfolding.proofs.equate.equate_with_cell.Goals as goal

pub returns-in-Fixed : goal.returns-in-Fixed
returns-in-Fixed c = turned_call (Fixed c.in-Fixed.constant) (Cell c.args.kind c.args.place) c.args.term.now c.constant_and_cell.result c.in-Fixed.is c.constant_and_cell.ensures
