-- By `Uniting`.
use Rattle.queries.proofs.laws.unifying_is_computed.Goals as goal
use Rattle.queries.proofs.Uniting.{unifying_is_computed}

pub returns : goal.returns
returns c = unifying_is_computed
