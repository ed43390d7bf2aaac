use Rattle.negative_closure.proofs.KnownByChains as lemmas
use Rattle.negative_closure.proofs.laws.known_come_by_chains.Goals as goal

pub returns : goal.returns
returns c = lemmas.known_come_by_chains
