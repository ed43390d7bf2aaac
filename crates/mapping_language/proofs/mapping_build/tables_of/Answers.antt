use Rattle.mapping_language.specs.Tables.{table_number}
use Rattle.line_lexer.specs.Judging.{or_zero}
use Rattle.mapping_language.proofs.Lists.{mapped_step}
use Rattle.mapping_language.proofs.mapping_build.tables_of.Goals as goal

pub loop-from-preserved : goal.loop-from-preserved
loop-from-preserved c = mapped_step (λ from. record { 0 = or_zero (table_number c.args.sources.now from.table.now) }) c.args.froms.now c.loop-from.from-index _ c.loop-from.list c.push.new.self _ c.loop-from-test.true c.loop-from.invariant c.in_ok-table_of.ensures c.in_ok-push.ensures.ok
