use Rattle.onprom_core.specs.Outputs.{ended}
use Rattle.onprom_core.proofs.Firsts.{refusal_ends}
use Rattle.onprom_core.proofs.verifying.verifying.Goals as goal

pub returns-clause-ends : goal.returns-clause-ends
returns-clause-ends c =
    refusal_ends c.args.project.now c.args.tables.now c.args.derivations.now c.in_ok-tbox.tbox c.mappings.result.now c.in_ok-tbox.ensures.tbox c.mappings.ensures
    c.in-Some.number (ended c.judged-in-Some.result) (rw c.in-Some.is at c.in_ok-first_refused.ensures) (rw c.in_ok-report-in-Some.ensures at c.judged-in-Some.ensures)
