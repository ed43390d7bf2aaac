use Rattle.std.proofs.Common.{subst}
use Rattle.source_tables.specs.Tables.{HasKeys}
use Rattle.source_tables.proofs.table.Table.has_keys.Goals as goal

pub returns : goal.returns
returns c = subst HasKeys c.self.view_is c.self.invariant.4
