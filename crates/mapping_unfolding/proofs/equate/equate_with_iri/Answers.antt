use Rattle.mapping_facts.specs.declared.term.RowTerm.TheVariants.{Fixed, Iri}
use Rattle.mapping_unfolding.proofs.Equating.{turned_call}
use Rattle.mapping_unfolding.proofs.equate.equate_with_iri.Goals as goal

pub returns-in-Fixed : goal.returns-in-Fixed
returns-in-Fixed c = turned_call (Fixed c.in-Fixed.constant) (Iri c.args.template.now c.args.places.now) c.args.term.now c.constant_and_iri.result c.in-Fixed.is c.constant_and_iri.ensures
