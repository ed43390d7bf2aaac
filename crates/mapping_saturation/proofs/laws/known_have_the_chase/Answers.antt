use Rattle.mapping_saturation.proofs.Knowing.{have_the_chase}
use Rattle.mapping_saturation.proofs.laws.known_have_the_chase.Goals as goal

pub returns : goal.returns
returns c = have_the_chase
