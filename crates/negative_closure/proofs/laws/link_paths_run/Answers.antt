use Rattle.negative_closure.proofs.PathsRun as lemmas
use Rattle.negative_closure.proofs.laws.link_paths_run.Goals as goal

pub returns : goal.returns
returns c = lemmas.link_paths_run
