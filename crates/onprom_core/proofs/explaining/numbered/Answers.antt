use Rattle.std.proofs.Common.{◌≡◌, sym, inl, inr}
use Rattle.std.proofs.lemmas.Result.{IfOk-weaker}
use Rattle.onprom_core.specs.Explained.{EndsExplaining, ExplainsTuple}
use Rattle.onprom_core.specs.Jobs.{unknown_end}
use Rattle.onprom_core.specs.Outputs.{ended}
use Rattle.onprom_core.proofs.Contradicting.{stands_at}
use Rattle.onprom_core.proofs.explaining.numbered.Goals as goal

pub explained-requires-clause-certain : goal.explained-requires-clause-certain
explained-requires-clause-certain c =
    rw c.items.ensures (c.requires.listed.each c.in-Some.tuple.now (stands_at c.args.tuples.now c.args.number c.in-Some.tuple.now (sym c.in-Some.ensures)))

pub returns-in-Some-clause-ends : goal.returns-in-Some-clause-ends
returns-in-Some-clause-ends c =
    IfOk-weaker c.explained.result (λ o. ExplainsTuple c.args.project.now c.args.tables.now c.args.query.now c.in-Some.tuple.now (ended o))
    (λ o. EndsExplaining c.args.project.now c.args.tables.now c.args.query.now c.args.tuples.now c.args.number (ended o))
    (λ o is. inl (c.in-Some.tuple.now, sym c.in-Some.ensures, is))
    (rw c.items.ensures at c.explained.ensures.explains)

pub returns-in-None-clause-ends : goal.returns-in-None-clause-ends
returns-in-None-clause-ends c =
    IfOk-weaker c.unknown.result (λ o. ended o ≡ unknown_end c.args.number)
    (λ o. EndsExplaining c.args.project.now c.args.tables.now c.args.query.now c.args.tuples.now c.args.number (ended o))
    (λ o is. inr (sym c.in-None.ensures, is))
    c.unknown.ensures.end
