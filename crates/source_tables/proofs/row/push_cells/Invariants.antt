use Rattle.csv.specs.Records.{fields_of}
use Rattle.source_tables.proofs.Rows.{SoFar}
use Rattle.source_tables.proofs.row.push_cells.Given as goal

abbrev pub invariant-loop-number : goal.invariant-loop-number
invariant-loop-number l = SoFar l.fn.decl.offset l.fn.row (fields_of l.fn.fields) l.fn.places l.fn.decl.columns l.fn.cells l.cells l.number
