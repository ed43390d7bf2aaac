-- By `Matching`.
use Rattle.query_subsumption.proofs.Matching as lemmas
use Rattle.query_subsumption.proofs.laws.mapping_is_sound.Goals as goal

pub returns : goal.returns
returns c = lemmas.maps_soundly
