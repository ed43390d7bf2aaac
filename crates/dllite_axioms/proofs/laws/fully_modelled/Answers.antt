-- By `Worlds`.
use Rattle.dllite_axioms.proofs.Worlds as lemmas
use Rattle.dllite_axioms.proofs.laws.fully_modelled.Goals as goal

pub returns : goal.returns
returns c = lemmas.fully_modelled
