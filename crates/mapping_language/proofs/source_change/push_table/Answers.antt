use Rattle.mapping_language.proofs.Offsets.{pushed_near}
use Rattle.mapping_language.proofs.source_change.push_table.Goals as goal

pub returns-clause-offsets : goal.returns-clause-offsets
returns-clause-offsets c = λ near one. pushed_near c.push.result c.args.sources.now.tables c.push.new.self c.args.table near one c.push.ensures.ok
