use Rattle.why_answers.proofs.Facts.{explained_is_certain}
use Rattle.why_answers.proofs.laws.explained_is_certain.Goals as goal

pub returns : goal.returns
returns c = explained_is_certain
