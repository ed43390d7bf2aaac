use Rattle.std.proofs.Common.{subst, [], List, ℕ}
use Rattle.std.proofs.lemmas.Result.{err_from_is_err_and}
use Rattle.csv.specs.Records.{fields_of}
use Rattle.source_tables.specs.Loading.{Fails}
use Rattle.source_tables.specs.Tables.{checked_header}
use Rattle.source_tables.proofs.Whole.{no_rows_in, header_fails, empty_found}
use Rattle.source_tables.proofs.loading.load_empty.Goals as goal

pub returns-in_err-find_places-clause-fault : goal.returns-in_err-find_places-clause-fault
returns-in_err-find_places-clause-fault c =
    let p = err_from_is_err_and c.from_residual.result c.from_residual.ensures.1 in
    rw (p.1, p.2) (header_fails c.args.decl.now [] [] c.in_err-find_places.field-0.0
    (subst (λ (header : List (List ℕ)). Fails c.in_err-find_places.field-0.0 (checked_header c.args.decl.now header)) c.new.ensures.fields c.in_err-find_places.ensures.fault))

pub returns-clause-table : goal.returns-clause-table
returns-clause-table c =
    empty_found c.args.decl.now (fields_of c.new.result) _ c.in_ok-of_cells.field-0 c.in_ok-find_places.ensures.right c.new.ensures.fields
    (no_rows_in c.args.decl.now c.in_ok-rows.rows.count c.in_ok-rows.rows.cells c.in_ok-rows.ensures.none) c.in_ok-of_cells.ensures
