use Rattle.std.proofs.Common.{sym, subst}
use Rattle.join_engine.specs.Ties.{AreServed}
use Rattle.join_engine.proofs.choosing.plan_by.Goals as goal

pub returns : goal.returns
returns c = λ tables q served. subst (λ indexes. AreServed tables q indexes c.args.choices.items) (sym c.as_slice.ensures.value) served
