use Rattle.negative_closure.proofs.PathsRun as lemmas
use Rattle.negative_closure.proofs.laws.paths_run.Goals as goal

pub returns : goal.returns
returns c = lemmas.paths_run
