-- A number is bound.
use Rattle.query_subsumption.proofs.bindings.send.Goals as goal

pub returns-in-Numbered : goal.returns-in-Numbered
returns-in-Numbered c = rw c.in-Numbered.is c.bind.ensures
