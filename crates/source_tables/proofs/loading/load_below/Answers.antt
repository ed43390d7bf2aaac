use Rattle.std.proofs.lemmas.Result.{err_from_is_err_and}
use Rattle.csv.specs.Records.{fields_of}
use Rattle.source_tables.proofs.Whole.{no_rows_in, rows_fail, rows_found}
use Rattle.source_tables.proofs.loading.load_below.Goals as goal

pub returns-in_err-add_rows-clause-fault : goal.returns-in_err-add_rows-clause-fault
returns-in_err-add_rows-clause-fault c =
    let p = err_from_is_err_and c.from_residual-in_err-add_rows.result c.from_residual-in_err-add_rows.ensures.1 in
    rw (p.1, p.2) (λ body leaves. rows_fail c.args.decl.now (fields_of c.args.header.now) body _ c.in_err-add_rows.field-0.0 c.in_ok-places.ensures.right
    (no_rows_in c.args.decl.now c.in_ok-rows.rows.count c.in_ok-rows.rows.cells c.in_ok-rows.ensures.none) (c.in_err-add_rows.ensures.fault body leaves))

pub returns-clause-table : goal.returns-clause-table
returns-clause-table c = λ body leaves.
    rows_found c.args.decl.now (fields_of c.args.header.now) body _ _ c.in_ok-of_cells.field-0 c.in_ok-places.ensures.right
    (no_rows_in c.args.decl.now c.in_ok-rows.rows.count c.in_ok-rows.rows.cells c.in_ok-rows.ensures.none) (c.in_ok-add_rows.ensures.added body leaves) c.in_ok-of_cells.ensures
