-- By `Gaining`.
use Rattle.std.proofs.Common.{get_or}
use Rattle.relation_join.proofs.Values.{no_var}
use Rattle.relation_join.proofs.Gaining.{In-get_or, get_or_any}
use Rattle.relation_join.proofs.value.first_shared.Goals as goal

pub returns-then-stands_in-clause-first : goal.returns-then-stands_in-clause-first
returns-then-stands_in-clause-first c =
    let vars = c.args.vars.now in
    let n = c.loop-var.var-index in
    let x = get_or vars n no_var in
    In-get_or vars n x c.loop-var-test.true (get_or_any vars n no_var x c.loop-var-test.true)
