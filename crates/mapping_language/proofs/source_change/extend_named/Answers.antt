use Rattle.std.proofs.Common.{if◌then◌else◌, arith}
use Rattle.std.specs.Str.{bytes_eq}
use Rattle.mapping_language.specs.Changes.{extended}
use Rattle.mapping_language.specs.Shown.{line_shown}
use Rattle.mapping_language.proofs.Lists.{changed_more}
use Rattle.mapping_language.proofs.source_change.extend_named.Goals as goal

pub loop-i-preserved : goal.loop-i-preserved
loop-i-preserved c = changed_more (λ table. if bytes_eq table.name c.args.name.now then extended (line_shown c.args.line.now) table else table) c.args.tables.now.items c.loop-i.tables.items c.loop-i.i c.index_mut.result.now c.extend_if_named.new.table _ (omega arith) c.loop-i.invariant c.index_mut.ensures.value c.in_ok-extend_if_named.ensures
