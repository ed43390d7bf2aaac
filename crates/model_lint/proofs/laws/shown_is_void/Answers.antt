-- By `Renaming`.
use Rattle.model_lint.proofs.Renaming as lemmas
use Rattle.model_lint.proofs.laws.shown_is_void.Goals as goal

pub returns : goal.returns
returns c = lemmas.shown_is_void
