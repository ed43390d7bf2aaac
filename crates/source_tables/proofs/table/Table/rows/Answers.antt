use Rattle.std.proofs.Common.{◌∙◌, sym, ap, length}
use Rattle.source_tables.specs.Tables.{Loaded}
use Rattle.source_tables.proofs.Cutting.{length-cut_rows}
use Rattle.source_tables.proofs.table.Table.rows.Goals as goal

pub returns-clause-count : goal.returns-clause-count
returns-clause-count c = sym (length-cut_rows _ _ _) ∙ ap (λ (t : Loaded). length t.rows) c.self.view_is
