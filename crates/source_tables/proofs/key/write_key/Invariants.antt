use Rattle.std.proofs.Common.{true, take, string_bytes}
use Rattle.source_tables.specs.Loading.{IsKeyText, row_at}
use Rattle.source_tables.specs.Tables.{key_cells}
use Rattle.source_tables.proofs.key.write_key.Given as goal

abbrev pub invariant-loop-col : goal.invariant-loop-col
invariant-loop-col l = IsKeyText true (key_cells (take l.col-index l.fn.key) (row_at l.fn.width l.fn.row l.fn.cells.cells)) (string_bytes l.text)
