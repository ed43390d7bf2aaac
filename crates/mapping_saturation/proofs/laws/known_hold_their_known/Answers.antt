use Rattle.mapping_saturation.proofs.Knowing.{hold_their_known}
use Rattle.mapping_saturation.proofs.laws.known_hold_their_known.Goals as goal

pub returns : goal.returns
returns c = hold_their_known
