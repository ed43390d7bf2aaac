use Rattle.onprom_core.proofs.ModelRuns.{compared_from}
use Rattle.onprom_core.proofs.containing.contain_from.Goals as goal

pub returns-clause-told : goal.returns-clause-told
returns-clause-told c =
    compared_from c.args.project.now c.args.first.now c.args.second.now c.in_ok-one.one.now c.in_ok-other.other.now c.in_ok-output.output
    c.in_ok-one.ensures.told c.in_ok-other.ensures.told c.in_ok-alike.ensures.told c.in_ok-output.ensures.ends
