use Rattle.onprom_core.proofs.Asking.{rewritten_from}
use Rattle.onprom_core.proofs.querying.rewrite_from.Goals as goal

pub returns-clause-told : goal.returns-clause-told
returns-clause-told c =
    rewritten_from c.args.project.now c.args.name.now c.in_ok-query.query.now c.in_ok-query.ensures.told
    c.in_ok-output.output c.in_ok-output.ensures.ends
