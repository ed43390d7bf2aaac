-- Each way.
use Rattle.fold_rewriting.proofs.laws.fold_steps_are_told.Goals as goal
use Rattle.fold_rewriting.proofs.Telling as lemmas

pub returns : goal.returns
returns c = lemmas.steps_told
