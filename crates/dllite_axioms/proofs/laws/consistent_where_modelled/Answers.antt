-- By `Worlds`.
use Rattle.dllite_axioms.proofs.Worlds as lemmas
use Rattle.dllite_axioms.proofs.laws.consistent_where_modelled.Goals as goal

pub returns : goal.returns
returns c = lemmas.consistent_where_modelled
