use Rattle.std.proofs.Common.{◌≡◌, ◌++◌, map, take, drop, if◌then◌else◌}
use Rattle.std.specs.Str.{bytes_eq}
use Rattle.mapping_language.specs.Changes.{extended}
use Rattle.mapping_language.specs.Shown.{line_shown}
use Rattle.mapping_language.proofs.source_change.extend_named.Given as goal

abbrev pub invariant-loop-i : goal.invariant-loop-i
invariant-loop-i l = l.tables.items ≡ map (λ table. if bytes_eq table.name l.name then extended (line_shown l.line) table else table) (take l.i l.fn.tables.items) ++ drop l.i l.fn.tables.items
