-- A source that is listed is one.
use Rattle.negative_closure.proofs.Places.{In-at}
use Rattle.reasoning_tests.proofs.closure.met.Goals as goal

pub plan-requires-clause-source : goal.plan-requires-clause-source
plan-requires-clause-source c =
    let exact = rw (← c.items-source-items.ensures) at c.in_ok-sources.ensures.sources in
    (exact _).0 (In-at _ _ _ c.loop-source-test.true)
