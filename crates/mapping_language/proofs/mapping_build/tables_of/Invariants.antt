use Rattle.std.proofs.Common.{◌≡◌, map, take}
use Rattle.mapping_language.specs.Tables.{table_number}
use Rattle.line_lexer.specs.Judging.{or_zero}
use Rattle.mapping_language.proofs.mapping_build.tables_of.Given as goal

abbrev pub invariant-loop-from : goal.invariant-loop-from
invariant-loop-from l = l.list ≡ map (λ from. record { 0 = or_zero (table_number l.sources from.table.now) }) (take l.from-index l.froms)
