use Rattle.std.proofs.Common.{subst}
use Rattle.source_tables.specs.Tables.{HasTexts}
use Rattle.source_tables.proofs.Cutting.{All-cut_rows}
use Rattle.source_tables.proofs.table.Table.has_texts.Goals as goal

pub returns : goal.returns
returns c = subst HasTexts c.self.view_is (All-cut_rows _ _ _ c.self.invariant.3)
