-- The numbers of the rows so far.
use Rattle.std.proofs.Common.{◌≡◌, ℕ, List, [], filter}
use Rattle.std.specs.Option.{option_map_or}
use Rattle.std.specs.List.{range_with_len}
use Rattle.std.specs.HashMap.{get_by_text}
use Rattle.relation_join.specs.Listed.{has_key}
use Rattle.relation_join.proofs.index.Index.build.Given as goal

abbrev pub invariant-loop-row : goal.invariant-loop-row
invariant-loop-row l = (text : List ℕ) → option_map_or (λ g. g.items) (get_by_text l.found text) [] ≡ filter (has_key l.vars l.rows l.var text) (range_with_len 0 l.row)
