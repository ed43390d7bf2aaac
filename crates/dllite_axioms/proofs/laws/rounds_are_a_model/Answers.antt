-- By `Worlds`.
use Rattle.dllite_axioms.proofs.Worlds as lemmas
use Rattle.dllite_axioms.proofs.laws.rounds_are_a_model.Goals as goal

pub returns : goal.returns
returns c = lemmas.rounds_model
