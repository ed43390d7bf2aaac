use Rattle.std.proofs.Common.{◌≡◌, ℕ, List}
use Rattle.csv.specs.Records.{fields_of}
use Rattle.source_tables.specs.Reading.{Leaves}
use Rattle.source_tables.specs.Tables.{checked_rows}
use Rattle.source_tables.specs.Loading.{AreRead, rows_in}
use Rattle.source_tables.proofs.loading.add_rows.Given as goal

abbrev pub invariant-loop-turn : goal.invariant-loop-turn
invariant-loop-turn l = record {
  read : AreRead l.fn.decl l.rows.count l.rows.cells l.rows.indexes.items;
  left : (body : List (List (List ℕ))) → Leaves l.fn.reader body
      → (rest : List (List (List ℕ))) × Leaves l.reader rest
      × (checked_rows l.fn.decl (fields_of l.fn.header) (rows_in l.fn.decl l.rows.count l.rows.cells) rest
      ≡ checked_rows l.fn.decl (fields_of l.fn.header) (rows_in l.fn.decl l.fn.rows.count l.fn.rows.cells) body);
}
