use Rattle.std.proofs.Common.{◌≡◌, map, take}
use Rattle.mapping_language.specs.Tables.{numbers_of}
use Rattle.mapping_language.proofs.source_change.key_of.Given as goal

abbrev pub invariant-loop-column : goal.invariant-loop-column
invariant-loop-column l = l.key ≡ numbers_of l.table (map (λ c. c.now) (take l.column-index l.columns))
