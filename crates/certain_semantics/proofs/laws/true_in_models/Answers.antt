-- By `Truth`.
use Rattle.certain_semantics.proofs.Truth as lemmas
use Rattle.certain_semantics.proofs.laws.true_in_models.Goals as goal

pub returns : goal.returns
returns c = lemmas.certain_true
